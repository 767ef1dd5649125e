use Rattle.std.proofs.Common.{◌≡◌, ℕ, zero, suc, ◌<◌, ◌≤◌, List, [], ◌∷◌, length, get_or, Option, Some, None, MatchOption, unwrap_or, sym, refl, ◌∙◌, arith, rules}
use Rattle.std.specs.List.{All, Contains}
use Rattle.sheets.specs.Members.{In, here, later}
use Rattle.books.specs.Job.{job_number}
use Rattle.books.proofs.JobNumbers.{number_in, number_least}
use Rattle.slots.proofs.job.ops.smallest.Goals as goal

read_in : (ns : List ℕ) (i n : ℕ) → i < length ns → get_or ns i n ≡ n → In n ns
read_in [] i n lt e = absurd (omega arith)
read_in (m ∷ ms) zero n lt e = here (sym e)
read_in (m ∷ ms) (suc i) n lt e = later (read_in ms i n (omega arith) e)

place_in : (ns : List ℕ) (n : ℕ) → In n ns → (i : ℕ) × (i < length ns) × (get_or ns i 0 ≡ n)
place_in [] n h = elim h [ ]
place_in (m ∷ ms) n (here e) = (0, omega arith, sym e)
place_in (m ∷ ms) n (later h) = let at = place_in ms n h in (suc at.0, omega (arith, at.1), at.2)

-- the least of them is the number of the job
least_is : (ns : List ℕ) (o : Option ℕ) → MatchOption o (length ns ≡ 0) (λ m. Contains ns m × All (λ n. m ≤ n) ns) → unwrap_or o 0 ≡ job_number ns
least_is [] None h = refl
least_is (n ∷ ns) None h = absurd (omega arith)
least_is ns (Some m) h =
    let has : In m ns = read_in ns h.0.0 m h.0.1 h.0.2 in
    let at = place_in ns (job_number ns) (number_in ns (omega (arith, h.0.1))) in
    omega (arith, number_least ns m has, h.1 at.0 0 at.1, at.2)

pub returns : goal.returns
returns c =
    let least : MatchOption c.min.result (length c.args.numbers.now ≡ 0) (λ m. Contains c.args.numbers.now m × All (λ n. m ≤ n) c.args.numbers.now) = search rules in
    c.unwrap_or.ensures ∙ least_is c.args.numbers.now c.min.result least
