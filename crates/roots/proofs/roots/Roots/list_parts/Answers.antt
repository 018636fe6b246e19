use Rattle.std.proofs.Common.{◌≡◌, ℕ, ◌<◌, List, [], ◌∷◌, ◌++◌, length, sym, ◌∙◌, ap, arith}
use Rattle.roots.specs.Roots.{implications}
use Rattle.roots.specs.Parts.{few_parts, no_parts, one_more, two_more}
use Rattle.roots.specs.declared.implication.Implication.{Implication}
use Rattle.roots.specs.declared.implication.Implication.TheVariants.{ImpliedBy}
use Rattle.roots.specs.declared.roots.Roots.{Roots}
use Rattle.roots.proofs.roots.Roots.list_parts.Goals as goal

-- there is room for two more
room : (r : Roots) (i : ℕ) (xs : List Implication) → xs ≡ implications r i → i < 64 → length xs < 127
room r i xs e h = omega (arith, ap length e, few_parts r i)

pub loop-sensor-init : goal.loop-sensor-init
loop-sensor-init c = c.new-parts.ensures ∙ no_parts c.args.self.now

pub push-requires : goal.push-requires
push-requires c =
    let h = room c.args.self.now c.loop-sensor.sensor c.loop-sensor.parts.items c.loop-sensor.invariant (omega (arith, c.requires, c.loop-sensor-test.true)) in
    let k : length c.loop-sensor.parts.items < 128 = omega arith in
    (omega arith, k)

pub push-requires-then-contains : goal.push-requires-then-contains
push-requires-then-contains c =
    let h = room c.args.self.now c.loop-sensor.sensor c.loop-sensor.parts.items c.loop-sensor.invariant (omega (arith, c.requires, c.loop-sensor-test.true)) in
    let k : length c.push.new.self.items < 128 = omega (arith, c.push.ensures.len) in
    (omega arith, k)

pub push-requires-else-contains : goal.push-requires-else-contains
push-requires-else-contains c =
    let h = room c.args.self.now c.loop-sensor.sensor c.loop-sensor.parts.items c.loop-sensor.invariant (omega (arith, c.requires, c.loop-sensor-test.true)) in
    let k : length c.loop-sensor.parts.items < 128 = omega arith in
    (omega arith, k)

pub loop-sensor-preserved : goal.loop-sensor-preserved
loop-sensor-preserved c =
    let r = c.args.self.now in
    let i = c.loop-sensor.sensor in
    let xs = c.loop-sensor.parts.items in
    elim c.if-contains.branch [
      | goal.then-contains w ↦
          ap (λ p. p.items) w.parts-is ∙ w.push-then-contains.ensures.items ∙ ap (λ z. z ++ (ImpliedBy i r.s r.t ∷ [])) w.push.ensures.items
          ∙ two_more r i xs c.loop-sensor.invariant (sym w.if-contains.ensures)
      | goal.else-contains w ↦
          ap (λ p. p.items) w.parts-is ∙ w.push-else-contains.ensures.items ∙ one_more r i xs c.loop-sensor.invariant (sym w.if-contains.ensures)
    ]
