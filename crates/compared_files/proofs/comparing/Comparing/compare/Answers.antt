use Rattle.std.proofs.Common.{◌≡◌, ◌≢◌, ◌≤◌, ◌<◌, ◌+◌, ◌++◌, ℕ, List, [], ◌∷◌, length, take, drop, Option, Some, None, option_map, subst, sym, ap, ◌∙◌, refl, arith}
use Rattle.std.proofs.lemmas.Grind.{common_steps}
use Rattle.std.specs.Io.KnownBytes.{append_known}
use Rattle.outside_io.specs.Moves.{WhereTold}
use Rattle.compared_files.specs.Comparing.{ComparingValue, HasDiffered, told_by}
use Rattle.compared_files.specs.Next.{IsNext}
use Rattle.compared_files.specs.declared.writing.Next.{Next}
use Rattle.outside_io.specs.Stops.{GaveNothing}
use Rattle.compared_files.proofs.Meeting.{same_kept, short_met}
use Rattle.compared_files.proofs.Fronts.{differs_at, differs_more, no_bytes, some_bytes, told_more}
use Rattle.compared_files.proofs.comparing.Comparing.compare.Goals as goal

pub keep-requires-clause-other : goal.keep-requires-clause-other
keep-requires-clause-other g c =
    let some = some_bytes c.self.inside.other.items (grind (arith, common_steps, c.if-not-is_empty.true, c.is_empty.ensures)) in
    subst (λ v. HasDiffered (g.S.Source.told v.src) v.place (v.other ++ c.args.piece.now)) c.self.view_is
    (differs_more (g.S.Source.told c.self.inside.src) c.self.inside.place c.self.inside.other.items c.args.piece.now some c.self.invariant.differed)

pub returns-in-Ok-Same-clause-taken : goal.returns-in-Ok-Same-clause-taken
returns-in-Ok-Same-clause-taken g c =
    let T = g.S.Source.told c.self.inside.src in
    let p = c.self.inside.place in
    let n = c.in-Ok-Same.count in
    let piece = c.args.piece.now in
    let none : c.self.inside.other.items ≡ [] = no_bytes c.self.inside.other.items (grind (arith, common_steps, c.if-not-is_empty.false, c.is_empty.ensures)) in
    let going = subst (λ (v : ComparingValue g.row.S.Denot). v.met ≡ None) (sym c.self.view_is) c.requires.going in
    let at : g.S.Source.offset c.self.inside.src ≡ p = c.self.invariant.going going none in
    let next = subst (λ (x : Next). IsNext T (g.S.Source.ends c.self.inside.src) (g.S.Source.size c.self.inside.src) (g.S.Source.offset c.self.inside.src) (g.S.Source.offset c.next_of.new.src) piece x) c.in-Ok-Same.field-0-is c.in-Ok-Same.ensures.next in
    let same = subst (λ (from : ℕ). WhereTold T (λ (known : List ℕ). take n (drop from known) ≡ take n piece)) at next.3 in
    subst (λ (v : ComparingValue g.row.S.Denot). option_map (λ (known : List ℕ). take (p + n) known ++ c.self.inside.other.items) (g.S.Source.told c.next_of.new.src) ≡ append_known (told_by (g.S.Source.told v.src) v) (take n piece)) c.self.view_is
    (ap (λ (t : Option (List ℕ)). option_map (λ (known : List ℕ). take (p + n) known ++ c.self.inside.other.items) t) c.next_of.ensures.told
    ∙ ap (λ (o : List ℕ). option_map (λ (known : List ℕ). take (p + n) known ++ o) T) none
    ∙ told_more T p n piece same
    ∙ ap (λ (o : List ℕ). append_known (option_map (λ (known : List ℕ). take p known ++ o) T) (take n piece)) (sym none))

pub end-requires : goal.end-requires
end-requires g c =
    let T = g.S.Source.told c.self.inside.src in
    let p = c.self.inside.place in
    let none : c.self.inside.other.items ≡ [] = no_bytes c.self.inside.other.items (grind (arith, common_steps, c.if-not-is_empty.false, c.is_empty.ensures)) in
    let going = subst (λ (v : ComparingValue g.row.S.Denot). v.met ≡ None) (sym c.self.view_is) c.requires.going in
    let at : g.S.Source.offset c.self.inside.src ≡ p = c.self.invariant.going going none in
    let next = subst (λ (x : Next). IsNext T (g.S.Source.ends c.self.inside.src) (g.S.Source.size c.self.inside.src) (g.S.Source.offset c.self.inside.src) (g.S.Source.offset c.next_of.new.src) c.args.piece.now x) c.in-Ok-Nothing.field-0-is c.in-Ok-Nothing.ensures.next in
    let place : c.end.inside.place ≡ p = ap (λ (v : ComparingValue g.row.S.Denot). v.place) c.end.view_is in
    subst (λ (n : ℕ). GaveNothing (g.S.Source.size c.next_of.new.src) (g.S.Source.ends c.next_of.new.src) 0 n c.size-size.result) (sym place)
    (short_met T (g.S.Source.ends c.self.inside.src) (g.S.Source.ends c.next_of.new.src) (g.S.Source.size c.self.inside.src) (g.S.Source.size c.next_of.new.src) (g.S.Source.offset c.self.inside.src) (g.S.Source.offset c.next_of.new.src) p c.size-size.result c.args.piece.now
    next at c.self.invariant.within c.if-self-size.false c.size-size.ensures.value c.next_of.ensures.size c.next_of.ensures.ends c.self.invariant.given)

pub invariant_of-self-in-Ok-Same : goal.invariant_of-self-in-Ok-Same
invariant_of-self-in-Ok-Same g c =
    let T = g.S.Source.told c.self.inside.src in
    let p = c.self.inside.place in
    let none : c.self.inside.other.items ≡ [] = no_bytes c.self.inside.other.items (grind (arith, common_steps, c.if-not-is_empty.false, c.is_empty.ensures)) in
    let going = subst (λ (v : ComparingValue g.row.S.Denot). v.met ≡ None) (sym c.self.view_is) c.requires.going in
    let at : g.S.Source.offset c.self.inside.src ≡ p = c.self.invariant.going going none in
    let next = subst (λ (x : Next). IsNext T (g.S.Source.ends c.self.inside.src) (g.S.Source.size c.self.inside.src) (g.S.Source.offset c.self.inside.src) (g.S.Source.offset c.next_of.new.src) c.args.piece.now x) c.in-Ok-Same.field-0-is c.in-Ok-Same.ensures.next in
    same_kept (record { src = c.self.inside.src; place = p; other = c.self.inside.other.items; met = c.self.inside.met; failed = c.self.inside.failed }) c.next_of.new.src
    T (g.S.Source.told c.next_of.new.src) (g.S.Source.ends c.self.inside.src) (g.S.Source.ends c.next_of.new.src) (g.S.Source.size c.self.inside.src) (g.S.Source.size c.next_of.new.src) (g.S.Source.offset c.self.inside.src) (g.S.Source.offset c.next_of.new.src) (g.S.Source.faults c.next_of.new.src) c.in-Ok-Same.count c.args.piece.now
    next at going none c.next_of.ensures.within c.next_of.ensures.ends c.self.invariant.given c.self.invariant.unmet
