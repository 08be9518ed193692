use Rattle.std.proofs.Common.{rules, ◌≡◌, ◌+◌, ◌-◌, ◌≤◌, ◌++◌, ◌∷◌, [], false, true, length, replicate, suc, ap, arith, vec_capacity}
use Rattle.std.proofs.lemmas.List.{length_push, nil_from_length}
use Rattle.block_region.specs.Regions.{homes}
use Rattle.block_region.proofs.Counts.{homes-pushed, is_home-before, marked-before, is_home-first, marked-first, popped}
use Rattle.block_region.proofs.region.Region.take.Goals as goal

pub returns-in-Some-clause-taken : goal.returns-in-Some-clause-taken
returns-in-Some-clause-taken c =
    let hs = c.self.inside.roster.home in
    let ks = replicate (c.self.inside.blocks - c.self.inside.begun) true in
    let fits = popped (λ p. (p.ticket.key ≡ c.self.inside.roster.key) × (p.ticket.home ≡ true) × (p.number + 1 ≤ c.self.inside.begun)) c.self.inside.free.items c.pop.new.self.items c.in-Some.field-0 c.in-Some.ensures.items c.self.invariant.11 in
    let within : c.in-Some.field-0.number + 1 ≤ length hs = omega (arith, fits.2, c.self.invariant.8) in
    let home = is_home-before hs ks c.in-Some.field-0.number within in
    let marks = marked-before hs ks c.in-Some.field-0.number false within in
    let tied = c.in-Some.field-0.tied in
    search rules

pub invariant_of-self-in-None : goal.invariant_of-self-in-None
invariant_of-self-in-None c =
    let hs = c.self.inside.roster.home in
    let new : c.replace_with-ticket-in-None.new.dest.home ≡ hs ++ false ∷ [] = search rules in
    let pushed : homes c.replace_with-ticket-in-None.new.dest.home ≡ homes hs = rw new (homes-pushed hs) in
    let long : length c.replace_with-ticket-in-None.new.dest.home ≡ c.self.inside.begun + 1 = rw new (omega (arith, length_push hs false, c.self.invariant.8)) in
    let most : c.self.inside.begun + 1 ≤ c.self.inside.blocks = search rules in
    let room : c.self.inside.blocks ≤ vec_capacity c.pop.new.self = omega (arith, c.pop.ensures.capacity, c.self.invariant.10) in
    let none : c.pop.new.self.items ≡ [] = nil_from_length c.pop.new.self.items (omega (arith, c.in-None.ensures.cases, c.pop.new.self.ok.0)) in
    let gone : c.self.inside.free.items ≡ [] = nil_from_length c.self.inside.free.items (omega (arith, c.in-None.ensures.cases, c.self.inside.free.ok.0)) in
    let counted : homes c.replace_with-ticket-in-None.new.dest.home ≡ length c.pop.new.self.items = omega (arith, pushed, c.self.invariant.7, ap length none, ap length gone) in
    (search rules, search rules, search rules, search rules, search rules, search rules, search rules, counted, long, most, room, λ k d l. absurd (omega (arith, ap length none, l)))

pub returns-else-number-self-clause-taken : goal.returns-else-number-self-clause-taken
returns-else-number-self-clause-taken c =
    let hs = c.self.inside.roster.home in
    let others = c.self.inside.blocks - (c.self.inside.begun + 1) in
    let left : c.self.inside.blocks - c.self.inside.begun ≡ suc others = search rules in
    let home = is_home-first hs others in
    let marks = marked-first hs others in
    search rules
