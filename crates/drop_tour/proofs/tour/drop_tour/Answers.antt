use Rattle.std.proofs.Common.{◌∙◌, refl}
use Rattle.std.proofs.lemmas.Option.{MatchOption-at_some}
use Rattle.std.proofs.lemmas.Slice.{between_from_start}
use Rattle.drop_tour.proofs.Dropping.{is_written, granted_answer, granted_sheet}
use Rattle.drop_tour.proofs.tour.drop_tour.Goals as goal

pub returns : goal.returns
returns c =
    let got = MatchOption-at_some _ _ c.in_ok-standing.standing c.in_ok-standing.ensures.ok_part c.get.ensures.lookup.0 in
    let fits = got.1 in
    let standing = got.2 ∙ between_from_start c.args.sheet.now c.args.count in
    record {
      answer = granted_answer c.args.tour c.args.count c.args.sheet.now c.args.ids.now fits c.tour_bounds.result c.tour_bounds.ensures _ standing c.in_ok-named.named c.in_ok-named.ensures.answer c.name_tables.new.ids c.in_ok-named.named.count c.in_ok-named.ensures.ids refl c.remove_all-left.result c.remove_all-left.ensures.count;
      sheet = granted_sheet c.args.tour c.args.count c.args.sheet.now c.args.ids.now fits c.tour_bounds.result c.tour_bounds.ensures _ standing c.in_ok-named.named c.in_ok-named.ensures.answer c.name_tables.new.ids c.in_ok-named.named.count c.in_ok-named.ensures.ids refl c.remove_all-left.new.sheet c.remove_all-left.ensures.sheet;
      ids = is_written c.args.tour c.args.count c.args.sheet.now c.args.ids.now fits c.tour_bounds.result c.tour_bounds.ensures _ standing c.name_tables.new.ids c.in_ok-named.ensures.ids;
    }
