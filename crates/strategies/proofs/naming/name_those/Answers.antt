use Rattle.std.proofs.Common.{◌≡◌, ◌<◌, length, sym, refl, ap, ◌∙◌, arith}
use Rattle.std.proofs.lemmas.Fn.{says_at}
use Rattle.strategies.proofs.Writing.{write_room, write_light, write_yes, write_not}
use Rattle.strategies.proofs.naming.name_those.Goals as goal
use Rattle.strategies.proofs.naming.name_those.Goals.{then-test, else-test}

pub bounds-ids-named : goal.bounds-ids-named
bounds-ids-named g c =
    let q = c.requires.room in
    let yes : q.0 c.t-item.result ≡ _ = sym (q.1 c.t-item.result c.test.result (says_at g.F.Fn c.test.ensures refl)) ∙ c.if-test.true in
    let h = c.loop-t.invariant q.0 q.1 in
    omega (arith, h.long, q.2, write_room q.0 c.args.tables.now c.args.ids.now c.loop-t.ids c.loop-t.named c.loop-t.t-index c.t-item.result (omega arith) c.t-item.is h yes)

pub add-requires-clause-bytes : goal.add-requires-clause-bytes
add-requires-clause-bytes g c =
    let q = c.requires.room in
    let yes : q.0 c.t-item.result ≡ _ = sym (q.1 c.t-item.result c.test.result (says_at g.F.Fn c.test.ensures refl)) ∙ c.if-test.true in
    let h = c.loop-t.invariant q.0 q.1 in
    omega (arith, c.requires.light, write_light q.0 c.args.tables.now c.args.ids.now c.loop-t.ids c.loop-t.named c.loop-t.t-index c.t-item.result (omega arith) c.t-item.is h yes)

pub loop-t-preserved : goal.loop-t-preserved
loop-t-preserved g c p h =
    let ts = c.args.tables.now in
    let n = c.loop-t.named in
    let i = c.loop-t.t-index in
    let t = c.t-item.result in
    let kept = c.loop-t.invariant p h in
    let says : p t ≡ c.test.result = sym (h t c.test.result (says_at g.F.Fn c.test.ensures refl)) in
    elim c.if-test.branch [
      | then-test w ↦
          let q = c.requires.room in
          let yes : q.0 t ≡ _ = sym (q.1 t c.test.result (says_at g.F.Fn c.test.ensures refl)) ∙ w.if-test.true in
          let lt : n.count < length c.loop-t.ids = omega (arith, kept.long, q.2, write_room q.0 ts c.args.ids.now c.loop-t.ids n i t (omega arith) c.t-item.is (c.loop-t.invariant q.0 q.1) yes) in
          write_yes p ts c.args.ids.now c.loop-t.ids n i t (omega arith) c.t-item.is kept c.if-test.ids w.ids-is c.if-test.named
          (ap (λ m. m.count) w.named-is ∙ w.add.ensures.count) (ap (λ m. m.bytes) w.named-is ∙ w.add.ensures.bytes) lt (says ∙ w.if-test.true)
      | else-test w ↦ write_not p ts c.args.ids.now c.loop-t.ids n i t (omega arith) c.t-item.is kept c.if-test.ids w.ids-is c.if-test.named w.named-is (says ∙ w.if-test.false)
    ]
