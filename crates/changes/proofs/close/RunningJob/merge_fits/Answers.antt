use Rattle.std.proofs.Common.{◌≡◌, ℕ, Bool, true, false, cond, is_some, Some, None, refl, ap, ◌∙◌}
use Rattle.changes.proofs.Rooms.{stay_count, stay_bytes, merge_light}
use Rattle.changes.proofs.close.RunningJob.merge_fits.Goals as goal

fitting : (b : Bool) (n : ℕ) → is_some (cond b (Some n) None) ≡ b
fitting true n = refl
fitting false n = refl

pub overflow_sub-sheet : goal.overflow_sub-sheet
overflow_sub-sheet g c =
    stay_count c.args.self.now.numbers.now c.args.sheet.now c.args.standing c.args.outputs.now c.requires.within c.requires.total c.weigh_left-count.result.0 _ c.weigh_left-count.ensures.count refl

pub overflow_sub-bytes : goal.overflow_sub-bytes
overflow_sub-bytes g c =
    stay_bytes c.args.self.now.numbers.now c.args.sheet.now c.args.standing c.args.outputs.now c.requires.within c.requires.total c.weigh_left-count.result.0 c.weigh_left-count.result.1 c.weigh_left-count.ensures.count c.weigh_left-count.ensures.bytes

pub returns-then-outputs-sheet : goal.returns-then-outputs-sheet
returns-then-outputs-sheet g c =
    c.is_some.ensures ∙ ap is_some c.total_size.ensures ∙ fitting _ _
    ∙ merge_light c.args.self.now.numbers.now c.args.sheet.now c.args.standing c.args.outputs.now c.requires.within c.requires.total c.weigh_left-count.result.0 c.weigh_left-count.result.1 c.weigh_left-count.ensures.count c.weigh_left-count.ensures.bytes c.if-outputs-sheet.true
