-- The fronts of a run.
use Rattle.std.specs.Prelude.{ℕ, Bool, List, take, sum_by, count_by}
use Rattle.picks.specs.declared.fronts.Front.{Front}

-- the first k tables of a run, by their sizes and marks
abbrev pub front : {T : Type 0} → (T → ℕ) → List T → List Bool → ℕ → Front
front bytes ts marks k = record { at = k; sum = sum_by bytes (take k ts); hidden = count_by (λ m. m) (take k marks) }
