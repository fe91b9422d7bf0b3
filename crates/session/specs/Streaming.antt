-- A whole input, answered as it comes. Assumes nothing.
use Rattle.std.specs.Prelude.{◌≡◌, ℕ, List, map, IfSome, Option}
use Rattle.std.specs.Io.KnownBytes.{Appends}
use Rattle.text.specs.Lines.{lines}
use Rattle.session.specs.Runs.{Runs}
use Rattle.session.specs.Feeding.{kept}

-- some bytes were read, all of the input where it is known; their lines are answered, and the answers are what was written
pub record Streamed {S : Type 0} (answers : S → List ℕ → S → List ℕ → Type 0) (input before after : Option (List ℕ)) (s t : S) : Type 0 where
  pub bytes : List ℕ
  pub said : List ℕ
  pub whole : IfSome input (λ all. all ≡ bytes)
  pub runs : Runs answers (map kept (lines bytes)) s t said
  pub written : Appends before after said
