use Rattle.std.proofs.Common.{◌≡◌, ℕ, min, List, length, take, drop, replicate, Some, ap, refl, arith}
use Rattle.std.proofs.lemmas.List.{take_at, length-take, length-replicate}
use Rattle.std.proofs.lemmas.Result.{IfOk-weaker}
use Rattle.jobs.specs.View.{state}
use Rattle.std.specs.Vec.{with_items}
use Rattle.desk.specs.declared.histories.Phase.TheVariants.{Open}
use Rattle.desk.proofs.Making.{makes}
use Rattle.desk.proofs.histories.History.make.Goals as goal

-- so many places of the numbers in memory
lent : (places n : ℕ) → n ≡ min places 1024 → length {A = ℕ} (take n (replicate 1024 0)) ≡ min places 1024
lent places n e = omega (arith, e, length-take {A = ℕ} n (replicate 1024 0), length-replicate {A = ℕ} 1024 0)

pub returns-clause-made : goal.returns-clause-made
returns-clause-made g c call one =
    let ids : List ℕ = take c.min.result (replicate 1024 0) in
    let new = c.make_one.new.sheet in
    let long : length new ≡ c.args.self.now.sheet.len = omega (arith, c.make_one.auto.sheet, c.as_mut_slice.ensures.len) in
    let items = take_at new (drop (length new) c.args.self.now.sheet.items) c.args.self.now.sheet.len long in
    IfOk-weaker c.make_one.result _ _
    (λ _ t. (
      t.0,
      t.1,
      makes g.met.K.KeyKind.total call c.args.self.now c.in-Open.book c.make_one.new.book ids t.0 (record { places = c.args.self.now.places; id_places = c.args.self.now.id_places; sheet = with_items c.args.self.now.sheet c.make_one.new.sheet; phase = Open c.make_one.new.book; outputs = c.args.self.now.outputs }) c.make_one.new.sheet (lent c.args.self.now.id_places c.min.result c.min.ensures) (ap (λ s. Some (state c.make_one.new.book s)) items) items refl refl refl c.as_mut_slice.result.now
          c.in-Open.is c.as_mut_slice.ensures.value (c.make_one.ensures.state call one, c.make_one.ensures.rest call one, t.2),
    ))
    (c.make_one.ensures.told call one)
