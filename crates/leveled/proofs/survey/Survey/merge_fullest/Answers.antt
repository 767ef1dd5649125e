use Rattle.std.proofs.Common.{◌≡◌, ◌≤◌, Some, sym, ap, ◌∙◌, rules}
use Rattle.levels.specs.Scores.{chosen}
use Rattle.leveled.specs.Leveled.{scores}
use Rattle.leveled.specs.Survey.{set_to, standing, hides}
use Rattle.leveled.proofs.Scored.{wins_between}
use Rattle.leveled.proofs.survey.Survey.merge_fullest.Goals as goal

pub overflow_cast-n : goal.overflow_cast-n
overflow_cast-n g c =
    let v = c.args.self.now in
    let n = c.in-Some.n in
    let wins : Some n ≡ chosen (scores (set_to v) (standing v) (hides v) c.args.first.n) = c.in-Some.ensures.value ∙ ap chosen c.scores-scores.ensures in
    let low : n ≤ 5 = (wins_between (set_to v) (standing v) (hides v) c.args.first.n n (sym wins) c.in-Some.n-test.1).1 in
    search rules

pub compact-requires : goal.compact-requires
compact-requires g c =
    let v = c.args.self.now in
    let n = c.in-Some.n in
    let wins : Some n ≡ chosen (scores (set_to v) (standing v) (hides v) c.args.first.n) = c.in-Some.ensures.value ∙ ap chosen c.scores-scores.ensures in
    let between = wins_between (set_to v) (standing v) (hides v) c.args.first.n n (sym wins) c.in-Some.n-test.1 in
    record { within = between; room = c.requires.room }
