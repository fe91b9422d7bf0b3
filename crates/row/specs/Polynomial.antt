-- A polynomial of degree below k is the list of its k coefficients, the constant one first.
use Rattle.std.specs.Prelude.{List, [], ◌∷◌}
use Rattle.field.specs.Laws.{Operations}

abbrev pub value : {F : Type 0} → Operations F → List F → F → F
value o [] x = o.zero
value o (c ∷ p) x = o.sum c (o.product x (value o p x))
