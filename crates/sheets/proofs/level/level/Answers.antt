use Rattle.std.proofs.Common.{◌+◌, ◌-◌, ◌≤◌, ltb, length, take, drop, count_by, ap, ◌∙◌, arith, rules}
use Rattle.sheets.proofs.Levels.{before_less, level_between}
use Rattle.sheets.proofs.level.level.Given as given
use Rattle.sheets.proofs.level.level.Goals as goal

-- the levels before n end no later than those up to n
ordered : (g : given.Over) (c : goal.After-level_start-end g) → c.level_start-place.result ≤ c.level_start-end.result
ordered g c = omega (arith, c.level_start-place.ensures.count, c.level_start-end.ensures.count, before_less c.args.n c.args.tables.now)

pub slice_bounds-result-count : goal.slice_bounds-result-count
slice_bounds-result-count g c = ordered g c

pub slice_bounds-result-start : goal.slice_bounds-result-start
slice_bounds-result-start g c =
    let before = ordered g c in
    let within : c.level_start-place.result ≤ length c.args.tables.now = c.level_start-place.ensures.within in
    search rules

pub returns : goal.returns
returns g c =
    let ts = c.args.tables.now in
    let n = c.args.n in
    let place = c.level_start-place.result in
    record {
      place = c.level_start-place.ensures.count;
      tables =
          ap (λ k. take (k - place) (drop place ts)) c.level_start-end.ensures.count
          ∙ ap (λ k. take (count_by (λ t. ltb t.level (n + 1)) ts - k) (drop k ts)) c.level_start-place.ensures.count ∙ level_between n c.requires;
    }
