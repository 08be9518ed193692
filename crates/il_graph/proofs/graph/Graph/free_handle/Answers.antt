use Rattle.std.proofs.Common.{◌≡◌, map, remove, Option, Some, None, option_map, Ok, Err, refl, sym, ◌∙◌, ap, arith}
use Rattle.omx_types.specs.declared.handle.Handle.{Handle}
use Rattle.omx_types.specs.declared.error.OmxError.TheVariants as errors
use Rattle.part_api.specs.declared.attached.Attached.{Attached}
use Rattle.il_machine.specs.World.{Component}
use Rattle.il_machine.specs.Look.{Look, look}
use Rattle.il_machine.specs.Due.{ClosesTo}
use Rattle.il_machine.specs.Answers.{Answers}
use Rattle.il_machine.specs.Components.{free_refusal, without_component}
use Rattle.il_machine.specs.Acts as acts
use Rattle.il_machine.specs.Run.{Step}
use Rattle.stock_laws.specs.Bare.{StepsBare}
use Rattle.stock_laws.proofs.Lists.{map_remove}
use Rattle.graph_core.specs.Entries.{component_at, look_of, kept as core_kept}
use Rattle.audio_parts.specs.declared.any_part.AnyPart.{AnyPart}
use Rattle.audio_parts.specs.AnyParts.{attached_of}
use Rattle.audio_parts.specs.Shown.{ShownPart, shown_by}
use Rattle.il_graph.specs.Shown.{Shown}
use Rattle.il_graph.proofs.Calling.{Found, found, at_some, not_found, refused_at}
use Rattle.il_graph.proofs.Clients.{named_is, others_kept, own, own_client}
use Rattle.il_graph.proofs.Freeing.{freed_at}
use Rattle.il_graph.proofs.HandedIn.{keeps_over, keeps_same}
use Rattle.il_graph.proofs.Holding.{IsSeated, free_of_work, seat_there, seat_within, seated}
use Rattle.il_graph.proofs.Leaving.{HasLeft, has_left}
use Rattle.il_graph.proofs.Whole.{whole_over}
use Rattle.il_graph.proofs.graph.Graph.free_handle.Given.{Over}
use Rattle.il_graph.proofs.graph.Graph.free_handle.Goals.{After-into_file}
use Rattle.il_graph.proofs.graph.Graph.free_handle.Goals as goal

pub returns-in_default-clause-step : goal.returns-in_default-clause-step
returns-in_default-clause-step g c =
    rw (← c.self.view_is) (whole_over g.C.Client.progress _ c.self.inside.core (acts.FreeHandle c.args.h) (acts.Removed _) tt c.self.invariant.1 (λ w B. tt) (not_found g.C.Client.progress (Option Attached) c.self.inside.core c.args.h (λ w v i k. Answers (free_refusal (look w).headers k) (Err errors.InvalidComponent) w v (λ file. (file ≡ k.file) × ClosesTo (without_component i k w) v)) c.in_default.ensures.place))

pub returns-in-Some-free_refusal-clause-step : goal.returns-in-Some-free_refusal-clause-step
returns-in-Some-free_refusal-clause-step g c =
    let p = g.C.Client.progress in
    let G = c.self.inside.core in
    let F : Found p G c.args.h c.in-Some.place = found p G c.args.h c.in-Some.place c.in-Some.ensures.place c.in-Some.ensures.within in
    rw (← c.self.view_is) (whole_over p _ G (acts.FreeHandle c.args.h) (acts.Removed _) tt c.self.invariant.1 (λ w B. tt) (refused_at p (λ (l : Look) (k : Component). free_refusal l.headers k) G c.args.h c.in-Some.place c.in-Some-free_refusal.error (λ w v i k (file : Option Attached). (file ≡ k.file) × ClosesTo (without_component i k w) v) F c.in-Some-free_refusal.ensures))

pub returns-in_default-clause-held : goal.returns-in_default-clause-held
returns-in_default-clause-held g c =
    rw (← c.self.view_is) (keeps_same g.C.Client.progress c.self.inside.core)

pub returns-in-Some-free_refusal-clause-held : goal.returns-in-Some-free_refusal-clause-held
returns-in-Some-free_refusal-clause-held g c =
    rw (← c.self.view_is) (keeps_same g.C.Client.progress c.self.inside.core)

pub remove-requires : goal.remove-requires
remove-requires g c =
    let G = c.self.inside.core in
    let F : Found g.C.Client.progress G c.args.h c.in-Some.place = found g.C.Client.progress G c.args.h c.in-Some.place c.in-Some.ensures.place c.in-Some.ensures.within in
    seat_within g.C.Client.progress (shown_by g.S.Source.told g.K.Sink.told g.K.Sink.name) c.self.inside.parts.items G c.args.h c.in-Some.place F c.self.invariant.1 _ c.self.inside.parts.ok.0

pub unreachable-requires : goal.unreachable-requires
unreachable-requires g c =
    let G = c.self.inside.core in
    let F : Found g.C.Client.progress G c.args.h c.in-Some.place = found g.C.Client.progress G c.args.h c.in-Some.place c.in-Some.ensures.place c.in-Some.ensures.within in
    let free = free_of_work (look_of G).headers F.component (sym (at_some (λ k. None ≡ free_refusal (look_of G).headers k) (component_at c.in-Some.place G) F.component F.at c.in_default-free_refusal.ensures)) in
    seat_there g.C.Client.progress (shown_by g.S.Source.told g.K.Sink.told g.K.Sink.name) c.self.inside.parts.items G c.args.h c.in-Some.place F c.self.invariant.1 free c.remove.result c.remove.ensures.value c.in_default-remove.is

-- ---- what the call leaves

module _ (g : Over) (c : After-into_file g) where
  abbrev shows : AnyPart g.row.S.Denot g.row.K.Denot g.S.Source g.K.Sink → ShownPart g.row.S.Denot g.row.K.Denot
  shows = shown_by g.S.Source.told g.K.Sink.told g.K.Sink.name

  abbrev before : Shown g.row.S.Denot g.row.K.Denot g.row.C.Denot
  before = record { core = c.self.inside.core; parts = map (option_map shows) c.self.inside.parts.items }

  abbrev file : Option Attached
  file = option_map attached_of c.into_file.result

  F : Found g.C.Client.progress before.core c.args.h c.in-Some.place
  F = found g.C.Client.progress before.core c.args.h c.in-Some.place c.in-Some.ensures.place c.in-Some.ensures.within

  T : IsSeated F.component shows c.self.inside.parts.items c.in-Some.place c.in-Some-remove.part
  T =
      let headers = (look_of before.core).headers in
      let free = free_of_work headers F.component (sym (at_some (λ k. None ≡ free_refusal headers k) (component_at c.in-Some.place before.core) F.component F.at c.in_default-free_refusal.ensures)) in
      seated g.C.Client.progress shows c.self.inside.parts.items before.core c.args.h c.in-Some.place F c.self.invariant.1 free c.remove.result c.remove.ensures.value c.in-Some-remove.part c.in-Some-remove.is

  -- the core's step
  X : StepsBare (core_kept g.C.Client.progress before.core) (core_kept g.C.Client.progress c.close_out.new.self) (λ w v. Step w (acts.FreeHandle c.args.h) (acts.Removed (Ok file)) v)
  X = freed_at g.C.Client.progress before.core c.args.h c.in-Some.place F c.free_handle-client.new.self c.close_out.new.self file (ap (option_map attached_of) (rw c.into_part.ensures at c.into_file.ensures) ∙ T.tied.file)
      c.in_default-free_refusal.ensures c.free_handle-client.ensures.freed c.close_out.ensures.closes

  D : HasLeft g.C.Client.progress before c.close_out.new.self c.args.h c.in-Some.place file (Some (shows c.in-Some-remove.part))
  D = has_left g.C.Client.progress before c.close_out.new.self c.args.h c.in-Some.place F.component file c.self.invariant.1 F.place F.at X (ap (λ (k : Handle). k.generation) (own g.C.Client.progress before.core before.core before.core c.args.h c.in-Some.place F (λ k. refl)))
      (Some (shows c.in-Some-remove.part)) T.held

  after : map (option_map shows) c.remove.new.self.items ≡ remove before.parts c.in-Some.place
  after = ap (map (option_map shows)) c.remove.ensures.items ∙ map_remove (option_map shows) c.self.inside.parts.items c.in-Some.place

pub invariant_of-self : goal.invariant_of-self
invariant_of-self g c =
    let d = (goal.at.invariant_of-self g c).After-into_file in
    (let a = c.self.invariant.0 in let n = c.remove.ensures.capacity in omega (arith, a, n), rw (after g d) ((D g d).whole c.close_out.ensures.settled))

pub returns : goal.returns
returns g c =
    let p = g.C.Client.progress in
    let d = (goal.at.returns g c).After-into_file in
    let G = c.self.inside.core in
    let i = c.in-Some.place in
    let m = c.free_handle-client.new.self in
    let k = c.close_out.new.self in
    record {
      step = rw (← c.self.view_is, after g d) (D g d).step;
      held = rw (← c.self.view_is) (keeps_over p G k (acts.FreeHandle c.args.h) (acts.Removed (Ok (file g d))) refl refl (λ w. tt) c.law_of_worlds.ensures.one (X g d));
      client = rw (← c.self.view_is) (own_client p G c.args.h i (F g d) c.in-Some.ensures.place c.free_handle-client.result c.free_handle-client.ensures.client);
      file = rw (← c.self.view_is) ((rw c.into_part.ensures at c.into_file.ensures) ∙ sym (D g d).own);
      gone = named_is p G m k c.args.h i (F g d) c.close_out.ensures.clients None c.free_handle-client.ensures.gone;
      clients = rw (← c.self.view_is) (others_kept p G m k c.args.h i (F g d) c.close_out.ensures.clients c.free_handle-client.ensures.clients);
      files = rw (← c.self.view_is, after g d) (D g d).others;
      unchanged = tt;
    }
