use Rattle.std.proofs.Common.{◌≡◌, Bool, true, false, ◌&&◌, leb, filter, sym, refl, ap, ◌∙◌}
use Rattle.std.specs.List.{list_all}
use Rattle.runs.specs.Run.{span_of}
use Rattle.sheets.specs.Tables.{named}
use Rattle.books.specs.Booked.{kind_ok}
use Rattle.slots.specs.declared.job.Task.{Task}
use Rattle.slots.specs.Held.{clear_by, unmet}
use Rattle.slots.specs.View.{job_over}
use Rattle.slots.proofs.sound.BookTest.keeps_its_kind.Goals as goal

grouped : (a b c d : Bool) → ((a && (b && c)) && d) ≡ (a && (b && (c && d)))
grouped true true c d = refl
grouped true false c d = refl
grouped false b c d = refl

pub returns-else-has_free_way : goal.returns-else-has_free_way
returns-else-has_free_way g c =
    let cmp = g.K.KeyKind.ranks in
    let ts = c.args.self.now.tables.now in
    let ns = c.args.numbers.now in
    let level = c.in-Move.level in
    let kept : Task → Bool = λ t. kind_ok cmp ts (job_over t ns) (job_over t ns).kind in
    let clear : Bool = list_all (clear_by cmp level ns (span_of cmp (λ t. t.range) (filter (named ns) ts))) ts in
    let apart : Bool = unmet cmp (filter (named ns) ts) in
    let no = c.if-has_free_way.false in
    no ∙ sym (ap (λ b. b && apart) (sym c.has_free_way.ensures ∙ no)) ∙ grouped (leb 1 level) (leb level 6) clear apart ∙ ap kept (sym c.in-Move.is)

pub returns-in-Merge : goal.returns-in-Merge
returns-in-Merge g c =
    let kept : Task → Bool = λ t. kind_ok g.K.KeyKind.ranks c.args.self.now.tables.now (job_over t c.args.numbers.now) (job_over t c.args.numbers.now).kind in
    c.has_free_way-in-Merge.ensures ∙ ap kept (sym c.in-Merge.is)
