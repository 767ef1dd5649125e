-- A tour that is dropped: what naming and removing gave is what the definitions say.
use Rattle.std.proofs.Common.{◌≡◌, ℕ, ◌≤◌, List, length, take, Ok, Result, sym, ap, ◌∙◌}
use Rattle.std.proofs.lemmas.Bool.{cond_above}
use Rattle.refusals.specs.declared.refusal.Refusal.{Refusal}
use Rattle.keys.specs.declared.bounds.OwnedBounds.{OwnedBounds}
use Rattle.keys.specs.declared.stop_key.StopKey.{StopKey}
use Rattle.keys.specs.Bounds.{within}
use Rattle.keys.specs.StopKey.{stop_ranks}
use Rattle.runs.specs.declared.table.Table.{Table}
use Rattle.sheets.specs.Edits.{laid}
use Rattle.sheets.specs.Tables.{without}
use Rattle.strategies.specs.declared.naming.Named.{Named}
use Rattle.strategies.specs.Naming as N
use Rattle.strategies.proofs.Granted.{granted_front}
use Rattle.drop_tour.specs.declared.tour.Dropped.{Dropped}
use Rattle.drop_tour.specs.Tour.{bounds_of, of_tour, staying, told, kept_unless, dropped, left, written}

module _ (tour count : ℕ) (sheet : List (Table StopKey)) (ids : List ℕ) (fits : count ≤ length sheet)
    (b : OwnedBounds StopKey) (bounded : b ≡ bounds_of tour) (ts : List (Table StopKey)) (standing : ts ≡ take count sheet) where
  abbrev answer : Result Named Refusal
  answer = N.named (λ t. within stop_ranks b t.range) ts (length ids)

  same : answer ≡ N.named (of_tour tour) (take count sheet) (length ids)
  same = ap (λ c. N.named (λ t. within stop_ranks c t.range) ts (length ids)) bounded ∙ ap (λ us. N.named (of_tour tour) us (length ids)) standing

  pub is_written : (ids' : List ℕ) → ids' ≡ N.written (λ t. within stop_ranks b t.range) ts ids → ids' ≡ written tour count sheet ids
  is_written ids' w =
      cond_above (length sheet) count ids (N.written (of_tour tour) (take count sheet) ids) ids' fits
      (w ∙ (ap (λ c. N.written (λ t. within stop_ranks c t.range) ts ids) bounded ∙ ap (λ us. N.written (of_tour tour) us ids) standing))

  -- granted, and the first numbers of the id sheet taken out
  module _ (n : Named) (h : ◌≡◌ {A = Result Named Refusal} (Ok n) answer) (ids' : List ℕ) (k : ℕ) (w : ids' ≡ N.written (λ t. within stop_ranks b t.range) ts ids) (front : k ≡ n.count) where
    abbrev gone : List ℕ
    gone = take k ids'

    stays : without gone (take count sheet) ≡ staying tour (take count sheet)
    stays =
        ap (λ ns. without ns (take count sheet))
        (ap (λ j. take j ids') front
        ∙ (ap (take n.count) (w ∙ (ap (λ c. N.written (λ t. within stop_ranks c t.range) ts ids) bounded ∙ ap (λ us. N.written (of_tour tour) us ids) standing))
        ∙ granted_front (of_tour tour) (take count sheet) ids n (sym (h ∙ same))))

    pub granted_answer : (s : ℕ) → s ≡ length (without gone (take count sheet)) → ◌≡◌ {A = Result Dropped Refusal} (Ok (record { named = n; standing = s })) (dropped tour count sheet (length ids))
    granted_answer s e = cond_above (length sheet) count _ _ _ fits (ap (λ k. Ok (record { named = n; standing = k })) (e ∙ ap length stays) ∙ ap (told tour count sheet) (h ∙ same))

    pub granted_sheet : (sheet' : List (Table StopKey)) → sheet' ≡ laid (without gone (take count sheet)) sheet → sheet' ≡ left tour count sheet (length ids)
    granted_sheet sheet' e = cond_above (length sheet) count _ _ _ fits (e ∙ (ap (λ us. laid us sheet) stays ∙ ap (kept_unless tour count sheet) (h ∙ same)))
