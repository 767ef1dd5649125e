-- The hidden set as the list of its numbers, in the order in which they were hidden.
use Rattle.std.specs.Prelude.{ℕ, Bool, cond, not, List, [], ◌∷◌, ◌++◌, filter}
use Rattle.std.specs.List.{list_any}
use Rattle.sheets.specs.Tables.{memb}

-- one of the numbers is hidden
abbrev pub blocked : List ℕ → List ℕ → Bool
blocked hs numbers = list_any (λ n. memb n hs) numbers

-- the hidden numbers, and behind them, in their order, those that were not hidden yet
abbrev pub hiding : List ℕ → List ℕ → List ℕ
hiding hs [] = hs
hiding hs (n ∷ ns) = hiding (cond (memb n hs) hs (hs ++ n ∷ [])) ns

-- the hidden numbers that are not shown again, in their order
abbrev pub showing : List ℕ → List ℕ → List ℕ
showing numbers hs = filter (λ n. not (memb n numbers)) hs
