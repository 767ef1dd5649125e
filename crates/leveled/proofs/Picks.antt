-- Whenever leveled comes to a pick, its answer is the pick's.
use Rattle.std.proofs.Common.{ℕ, suc, List, Ordering, ap, ◌∙◌}
use Rattle.std.proofs.lemmas.Bool.{cond-true, cond-false}
use Rattle.runs.specs.declared.table.Table.{Table}
use Rattle.levels.specs.declared.settings.Settings.{Settings}
use Rattle.levels.specs.Settings.{in_limits}
use Rattle.picks.proofs.Laws.{pick_law}
use Rattle.sheets.specs.Level.{level_of}
use Rattle.leveled.specs.Leveled.{first_level, sinks, slides, won}
use Rattle.leveled.specs.Promise.{AlwaysPicks}

pub leveled_picks : {K : Type 0} (cmp : K → K → Ordering) (s : Settings) (ts : List (Table K)) (hs : List ℕ) → AlwaysPicks cmp s ts hs
leveled_picks cmp s ts hs n c =
    record {
      answer = cond-true (in_limits s) _ _ c.limits ∙ cond-false (sinks cmp s ts hs) _ _ c.stays ∙ cond-false (slides cmp s ts hs (first_level s ts hs)) _ _ c.holds ∙ ap (won cmp s ts hs (first_level s ts hs)) c.wins;
      law = pick_law cmp (λ t. t.range) (λ t. t.size) (λ t. t.number) hs (level_of (suc n) ts) (level_of (suc (suc n)) ts) s.target_size;
    }
