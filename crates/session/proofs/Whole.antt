-- An input that is read, answered and written chunk by chunk. Assumes nothing.
use Rattle.std.proofs.Common.{◌≡◌, ℕ, List, [], ◌++◌, Some, None, Option, sym, refl, ap, ◌∙◌, subst, append_assoc, append-nil}
use Rattle.std.specs.Option.{IfSome}
use Rattle.std.specs.Io.KnownBytes.{Keeps, Appends, Consumes, IsAtEnd}
use Rattle.session.specs.Runs.{Adds}
use Rattle.session.specs.Feeding.{Fed, Finished}
use Rattle.session.specs.Streaming.{Streamed}
use Rattle.session.proofs.Streams.{Seen, step, ends}

consumes_more : (a b c : Option (List ℕ)) (x y : List ℕ) → Consumes a b x → Consumes b c y → Consumes a c (x ++ y)
consumes_more None b c x y p q = tt
consumes_more (Some xs) None c x y p q = absurd p
consumes_more (Some xs) (Some ys) None x y p q = absurd q
consumes_more (Some xs) (Some ys) (Some zs) x y p q = p ∙ ap (λ l. x ++ l) q ∙ sym (append_assoc x y zs)

consumes_none : (a : Option (List ℕ)) → Consumes a a []
consumes_none None = tt
consumes_none (Some xs) = refl

consumes_kept : (a b c : Option (List ℕ)) (x : List ℕ) → Consumes a b x → Keeps b c → Consumes a c x
consumes_kept None b c x p k = tt
consumes_kept (Some xs) None c x p k = absurd p
consumes_kept (Some xs) (Some ys) None x p k = absurd k
consumes_kept (Some xs) (Some ys) (Some zs) x p k = p ∙ ap (λ l. x ++ l) (sym k)

appends_more : (a b c : Option (List ℕ)) (x y : List ℕ) → Appends a b x → Appends b c y → Appends a c (x ++ y)
appends_more None b c x y p q = tt
appends_more (Some xs) None c x y p q = absurd p
appends_more (Some xs) (Some ys) None x y p q = absurd q
appends_more (Some xs) (Some ys) (Some zs) x y p q = q ∙ ap (λ l. l ++ y) p ∙ append_assoc xs x y

appends_none : (a : Option (List ℕ)) → Appends a a []
appends_none None = tt
appends_none (Some xs) = sym (append-nil xs)

all_consumed : (a b : Option (List ℕ)) (x : List ℕ) → Consumes a b x → IsAtEnd b → IfSome a (λ all. all ≡ x)
all_consumed None b x p e = tt
all_consumed (Some xs) None x p e = absurd p
all_consumed (Some xs) (Some ys) x p e = p ∙ ap (λ l. x ++ l) e ∙ append-nil x

-- bytes that were read, their closed lines answered, and the answers written
pub record Streaming {S : Type 0} (answers : S → List ℕ → S → List ℕ → Type 0) (input before : Option (List ℕ)) (first : S) (held : List ℕ) (rest after : Option (List ℕ)) (s : S) : Type 0 where
  pub seen : List ℕ
  pub said : List ℕ
  pub read : Consumes input rest seen
  pub lines : Seen answers first seen held s said
  pub written : Appends before after said

module _ {S : Type 0} (answers : S → List ℕ → S → List ℕ → Type 0) (input before : Option (List ℕ)) (first : S) where
  -- a read that was interrupted
  pub waits : (held : List ℕ) (rest rest' after : Option (List ℕ)) (s : S) → Streaming answers input before first held rest after s → Keeps rest rest' → Streaming answers input before first held rest' after s
  waits held rest rest' after s g k = record { seen = g.seen; said = g.said; read = consumes_kept input rest rest' g.seen g.read k; lines = g.lines; written = g.written }

  -- a chunk, and the answers to the lines that end in it
  pub goes : (held held' chunk empty out : List ℕ) (rest rest' after after' : Option (List ℕ)) (s t : S) → Streaming answers input before first held rest after s → Consumes rest rest' chunk → empty ≡ [] → Adds empty out (Fed answers held chunk s held' t) → Appends after after' out → Streaming answers input before first held' rest' after' t
  goes held held' chunk empty out rest rest' after after' s t g taken none adds more =
      let is : out ≡ adds.0 = adds.2 ∙ ap (λ l. l ++ adds.0) none in
      record {
        seen = g.seen ++ chunk;
        said = g.said ++ adds.0;
        read = consumes_more input rest rest' g.seen chunk g.read taken;
        lines = step answers first g.seen held chunk held' s t g.said adds.0 g.lines adds.1;
        written = appends_more before after after' g.said adds.0 g.written (subst (Appends after after') is more);
      }

  -- the end of the input, and the answer to its last line
  pub stops : (held chunk empty out : List ℕ) (rest rest' after after' : Option (List ℕ)) (s t : S) → Streaming answers input before first held rest after s → Consumes rest rest' chunk → chunk ≡ [] → IsAtEnd rest' → empty ≡ [] → Adds empty out (Finished answers held s t) → Appends after after' out → Streamed answers input before after' first t
  stops held chunk empty out rest rest' after after' s t g taken bare done none adds more =
      let is : out ≡ adds.0 = adds.2 ∙ ap (λ l. l ++ adds.0) none in
      let all : Consumes input rest' g.seen = subst (Consumes input rest') (ap (λ l. g.seen ++ l) bare ∙ append-nil g.seen) (consumes_more input rest rest' g.seen chunk g.read taken) in
      record {
        bytes = g.seen;
        said = g.said ++ adds.0;
        whole = all_consumed input rest' g.seen all done;
        runs = ends answers first g.seen held s t g.said adds.0 g.lines adds.1.last;
        written = appends_more before after after' g.said adds.0 g.written (subst (Appends after after') is more);
      }
