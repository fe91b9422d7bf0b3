use Rattle.std.proofs.Common.{◌≡◌, ℕ, ◌<◌, ◌≤◌, map, Some, None, Option, refl, subst, rules, List, MatchOption}
use Rattle.std.specs.Str.Parse.{AllDigits}
use Rattle.std.proofs.lemmas.Fn.{serves_by, chained_keeps}
use Rattle.text.proofs.Spelling.{Read, read_more, read_small, read_told}
use Rattle.text.proofs.numbers.digits.Goals as goal

each : {A P Q : Type 0} {F G : A → Type 0} (o : Option A) → (P → Q) → ((x : A) → F x → G x) → MatchOption o P F → MatchOption o Q G
each None f g h = f h
each (Some x) f g h = g x h

pub try_fold-requires-clause-callable : goal.try_fold-requires-clause-callable
try_fold-requires-clause-callable c =
    serves_by _ (λ xs q. Read (map (λ b. b.now) xs) q.1)
    (λ xs q x v j r. let more = read_more xs x q.1 j in search rules)
    _ _ _ _ (tt, refl) (λ xs t q x u y s j. let n : q.1 < 10000 = read_small xs c.iter.result t u x q.1 y s (search rules) j in search rules)

pub returns : goal.returns
returns c =
    let ran = c.try_fold.ensures.ran in
    let read : Read (map (λ b. b.now) ran.0) ran.3 =
    chained_keeps _ (λ xs q. Read (map (λ b. b.now) xs) q.1) (λ xs q x v j r. let more = read_more xs x q.1 j in search rules) ran.0 _ _ (tt, refl) ran.5 in
    let stop : MatchOption ran.1 (c.try_fold.result ≡ Some ran.3) (λ x. (c.try_fold.result ≡ None) × (48 ≤ x.now → x.now ≤ 57 → ⊥)) =
    each ran.1 (λ e. e) (λ x h. (h.5, λ low high. search rules)) ran.6 in
    let P : List ℕ → Type 0 = λ bs. MatchOption c.try_fold.result (AllDigits 10 bs → ⊥) (Read bs) in
    subst P (search rules) (read_told ran.0 c.iter.result ran.4.0 c.try_fold.new.self ran.3 ran.1 c.try_fold.result ran.4.1 ran.4.2 read stop)
