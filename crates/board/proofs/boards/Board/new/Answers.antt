use Rattle.std.proofs.Common.{◌≤◌, ◌∙◌, sym, ap, subst, refl, length, List, []}
use Rattle.std.specs.Arc.{arc_value}
use Rattle.omx_types.specs.declared.handle.Handle.{Handle}
use Rattle.state_words.specs.Tokens.{count}
use Rattle.graph_acts.specs.Plain.{sight_of}
use Rattle.board.specs.Watching.{AreSeats}
use Rattle.board.specs.Histories.{Legal, StandsAfter, known_of}
use Rattle.board.proofs.Openings.{opens_so}
use Rattle.board.proofs.boards.Board.new.Goals as goal

pub new-requires : goal.new-requires
new-requires g c =
    let see = sight_of g.C.Client g.S.Source g.K.Sink in
    let L = c.in-Ok.ensures.looks in
    subst (λ v. Legal see v [] × StandsAfter see v [] v) (sym c.over-watched.ensures.value)
    (opens_so see _ c.in-Ok.looks.states.items c.law_of_worlds.ensures.one L.shown refl L.few L.stated L.shower)

pub invariant_of-board : goal.invariant_of-board
invariant_of-board g c =
    let L = c.in-Ok.ensures.looks in
    let kept = c.over-watched.ensures.rest in
    let at = c.in-Ok-new.ensures.ok.0 ∙ c.over-watched.ensures.value in
    let same = ap (λ v. v.items) kept.1 ∙ L.copied in
    record {
      same_words = ap (λ a. arc_value a) kept.0 ∙ (L.same ∙ sym (ap (λ v. arc_value v.words) at));
      same_handles = same ∙ sym (ap (λ v. v.handles.items) at);
      few = subst (λ (l : List Handle). length l ≤ 32) (sym same) L.few;
      counted = ap (λ a. count (arc_value a)) kept.0 ∙ (L.count ∙ ap (λ (l : List Handle). length l) (sym same));
    }

pub returns-in-Ok-new-clause-watched : goal.returns-in-Ok-new-clause-watched
returns-in-Ok-new-clause-watched g c = λ w s.
    let at = c.in-Ok-new.ensures.ok.0 ∙ c.over-watched.ensures.value in (
      c.in-Ok.looks.states.items,
      subst (λ v. AreSeats v.handles.items c.in-Ok.looks.states.items w) (sym at) (c.in-Ok.ensures.seats w s),
      ap known_of at ∙ c.in-Ok.ensures.looks.shown,
    )
