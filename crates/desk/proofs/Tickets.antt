-- The numbers of the running jobs, slot after slot.
use Rattle.std.proofs.Common.{◌≡◌, ℕ, ◌+◌, ◌<◌, Bool, true, false, not, List, [], ◌∷◌, ◌++◌, length, get_or, take, map, Some, None, Option, is_some, refl, ap, ◌∙◌}
use Rattle.std.proofs.lemmas.List.{take_more, map-append}
use Rattle.books.specs.Job.{Running, job_number}
use Rattle.slots.specs.declared.job.Job.{Job}
use Rattle.slots.specs.View.{slot, numbers_in}
use Rattle.desk.specs.Show.{tickets}

tickets_more : (ss : List (Option Running)) (s : Option Running) → tickets (ss ++ (s ∷ [])) ≡ tickets ss ++ tickets (s ∷ [])
tickets_more [] s = refl
tickets_more (None ∷ ss) s = tickets_more ss s
tickets_more (Some j ∷ ss) s = ap (λ ns. job_number j.numbers ∷ ns) (tickets_more ss s)

pub one_more : (jobs : List Job) (i : ℕ) (job : Job) → i < length jobs → tickets (map slot (take (i + 1) jobs)) ≡ tickets (map slot (take i jobs)) ++ tickets (slot (get_or jobs i job) ∷ [])
one_more jobs i job lt =
    ap (λ js. tickets (map slot js)) (take_more jobs i job lt)
    ∙ (ap tickets (map-append slot (take i jobs) (get_or jobs i job ∷ [])) ∙ tickets_more (map slot (take i jobs)) (slot (get_or jobs i job)))

pub of_busy : (s : Option Running) → not (is_some s) ≡ false → tickets (s ∷ []) ≡ job_number (numbers_in s) ∷ []
of_busy None e = absurd (let z : ◌≡◌ {A = Bool} true false = e in cc)
of_busy (Some j) e = refl

pub of_free : (s : Option Running) → not (is_some s) ≡ true → tickets (s ∷ []) ≡ []
of_free None e = refl
of_free (Some j) e = absurd (let z : ◌≡◌ {A = Bool} false true = e in cc)
