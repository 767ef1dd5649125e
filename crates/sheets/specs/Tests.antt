-- What a closure that tests answers.
use Rattle.std.specs.Prelude.{◌≡◌, Bool}
use denote.Ref.{Bor}
use Rattle.std.specs.Fn.{Shared, FnReturnsAt}

-- f, a test, answers what p says
abbrev pub Tests : {X F : Type 0} → Shared F (Bor X × Unit {0}) Bool → F → (X → Bool) → Type 0
Tests {X} g f p = (x : X) (b : Bool) → FnReturnsAt g f x b → b ≡ p x
