-- A work that a pass got may come back in each world in which it is out, and the graph may be asked to take it.
use Rattle.std.proofs.Common.{◌≡◌, ℕ, Bool, false, List, [], None, IsSomeAnd, is_some, refl, sym, ◌∙◌, ap, subst}
use Rattle.omx_types.specs.declared.handle.Handle.{Handle}
use Rattle.omx_types.specs.declared.kind.Kind.TheVariants as kinds
use Rattle.part_api.specs.Terms.{Terms}
use Rattle.il_machine.specs.Answers.{component_named}
use Rattle.il_machine.specs.Claims.{WorkSeen}
use Rattle.il_machine.specs.Look.{Look, look}
use Rattle.il_machine.specs.Sound.{Sound}
use Rattle.il_machine.specs.Whole.{HasDone, PartSeen, Stands}
use Rattle.il_machine.specs.World.{Component, World, number_of}
use Rattle.machine_laws.proofs.Finding.{either}
use Rattle.graph_core.specs.Finishing.{AreHandedBack}
use Rattle.outside_io.specs.declared.sink.Sink.{Ghosts as SinkGhosts}
use Rattle.outside_io.specs.declared.source.Source.{Ghosts as SourceGhosts}
use Rattle.audio_parts.specs.Shown.{ShownPart}
use Rattle.il_flow.specs.Places.{carried_from}
use Rattle.il_flow.specs.Works.{ComesBack, DoneOf, seen_done}
use Rattle.il_flow.proofs.Sameness.{known_same}
use Rattle.il_graph.specs.Finishing.{IsItsOwn, Returns}
use Rattle.il_graph.specs.Shown.{Shown, kept, seen_of}
use Rattle.il_graph.proofs.Calling.{and_some}
use Rattle.il_graph.proofs.Returning.{own_held, returns_stepped, returns_told}
use Rattle.graph_acts.specs.Holding.{CanFinish}
use Rattle.graph_acts.specs.Plain.{Sight, Unsaid}
use Rattle.graph_acts.specs.Working.{IsRunOf, IsWorkIn, OutWork, work_by}
use Rattle.graph_acts.proofs.Lasting.{some_there}

-- where nothing is left unsaid, anything will do
abbrev pub nothing_unsaid : Unsaid
nothing_unsaid = record { took = []; terms = record { kind = kinds.Gain; inputs = []; outputs = []; factors = []; file = None } }

module _ {S K : Type 0} {reads : SourceGhosts S} {writes : SinkGhosts K} (w : World) (got : OutWork S K) (done : DoneOf (ShownPart S K)) (H : IsWorkIn w got) (R : IsRunOf reads writes got done) where
  abbrev x : WorkSeen
  x = work_by H.terms got

  abbrev now : PartSeen
  now = seen_of done.part

  own : done.component.generation ≡ got.handle.generation
  own = ap (λ (h : Handle). h.generation) R.component

  -- by the bytes that its part's file took
  pub comes_back : (took : List ℕ) × Returns w (seen_done took done) now
  comes_back = either got.announces
      (λ a. ([], returns_told w x H.stream H.out (seen_done [] done) now own a (R.announced a) (subst (HasDone H.terms false H.stream) (ap seen_of (sym (R.unstepped a))) H.gone)))
      (λ n.
      let y = subst (λ (t : Terms). ComesBack t (carried_from 0 got.headers) (seen_of got.part) done.component.generation done.frames done.fault (carried_from 0 done.headers) now) (H.set_so n) (R.step n) H.stream H.gone in
      (y.0, returns_stepped w x H.stream H.out (seen_done y.0 done) now own n y.1 y.2))

  -- the part has failed where the step answered a fault
  pub failed_so : (done.part).failed ≡ is_some done.fault
  failed_so = either got.announces
      (λ a. ap (λ p. p.failed) (R.unstepped a) ∙ (H.whole ∙ sym (ap is_some (R.announced a).1)))
      (λ n. R.failed n)

module _ {S K C : Type 0} (see : Sight S K C) (w : World) (got : OutWork S K) (done : DoneOf (ShownPart S K)) (H : IsWorkIn w got) (R : IsRunOf see.reads see.writes got done) where
  pub can_finish : (g : Shown S K C) → Sound w → Stands (kept see.progress g) w → CanFinish see g done
  can_finish g D S =
      let c = some_there (component_named got.handle w.components) (λ (c : Component). number_of c ≡ got.handle.generation) H.named in
      let t : Terms = (done.part).terms in
      let failed : Bool = (done.part).failed in
      let own_it = own_held w (work_by H.terms got) H.stream H.out D got.handle c.0 c.1 refl done.announces done.fault t failed (sym R.announces)
      (ap (λ (y : Terms). y.kind) R.terms ∙ H.kind) (ap (λ (y : Terms). y.file) R.terms ∙ H.its_file) (failed_so w got done H R) in
      let P = λ (c : Component). IsItsOwn c done.announces done.fault t failed in
      let b = comes_back w got done H R in
      record {
        comes = (w, b.0, (S, b.1));
        its = subst (λ (l : Look). IsSomeAnd (component_named done.component l.components) P) S.looks
            (subst (λ (h : Handle). IsSomeAnd (component_named h w.components) P) (sym R.component) (and_some P (component_named got.handle w.components) c.0 c.1 own_it));
        handed = subst (AreHandedBack done.headers) S.looks (known_same (look w).key (look w).headers.header 0 got.headers done.headers R.same H.headers);
      }
