use Rattle.std.proofs.Common.{◌≡◌, ◌+◌, ◌<◌, Bool, ◌&&◌, leb, length, sym, ◌∙◌, arith}
use Rattle.std.proofs.lemmas.Bool.{and_left, and_right, and_from}
use Rattle.runs.specs.declared.table.Table.{Table}
use Rattle.strategies.specs.Fifo.{place_of, older, live}
use Rattle.strategies.proofs.Places.{numbered, earlier_here, earlier_there, older_here}
use Rattle.strategies.proofs.Taking.{take_yes, take_not}
use Rattle.strategies.proofs.fifo.FifoSettings.older_weigh_less.Goals as goal
use Rattle.strategies.proofs.fifo.FifoSettings.older_weigh_less.Goals.{then-t-table, else-t-table, then-is_live+then-is_older, else-is_live, else-is_live-via-then-is_live+else-is_older, else-is_live-via-else-is_live}

pub loop-t-preserved : goal.loop-t-preserved
loop-t-preserved g c =
    let ts = c.args.tables.now in
    let differ = c.requires.differ in
    let t = c.args.table.now in
    let i = c.loop-t.t-index in
    let u = c.t-item.result in
    let inside : i < length ts = omega arith in
    let early : c.if-t-table.earlier ≡ leb (i + 1) (place_of (numbered t.number) ts) =
    elim c.if-t-table.branch [
      | then-t-table w ↦ w.earlier-is ∙ earlier_here ts differ t i u inside c.t-item.is c.loop-t.earlier c.loop-t.invariant.0 w.if-t-table.true
      | else-t-table w ↦ w.earlier-is ∙ earlier_there ts differ t i u inside c.t-item.is c.loop-t.earlier c.loop-t.invariant.0 w.if-t-table.false
    ] in
    let is_older = older_here ts differ t i u inside c.t-item.is c.if-t-table.earlier early in
    let p : Table g.row.K.Denot → Bool = λ v. live c.args.self.now.ttl_seconds c.args.clock v && older ts t v in (
      early,
      elim c.if-is_live.branch [
        | then-is_live+then-is_older w ↦
            take_yes p ts c.args.excess c.loop-t.left i u inside c.t-item.is c.loop-t.invariant.1 w.saturating_sub.result c.if-is_live.left w.saturating_sub.ensures (w.left-is ∙ w.saturating_sub-left.ensures)
            (and_from _ _ (sym w.if-is_live.ensures) (sym is_older ∙ sym w.if-is_older.ensures))
        | else-is_live w ↦
            take_not p ts c.args.excess c.loop-t.left i u inside c.t-item.is c.loop-t.invariant.1 c.if-is_live.left w.left-is
            (elim w.else-is_live.branch [
              | else-is_live-via-then-is_live+else-is_older v ↦ and_right _ _ (sym is_older ∙ sym v.if-is_older.ensures)
              | else-is_live-via-else-is_live v ↦ and_left _ _ (sym v.if-is_live.ensures)
            ])
      ],
    )
