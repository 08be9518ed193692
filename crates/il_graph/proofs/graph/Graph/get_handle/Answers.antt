use Rattle.std.proofs.Common.{◌≡◌, [], ◌∷◌, ◌++◌, map, Some, option_map, sym, ◌∙◌, ap, subst, Ok, Err, refl, arith}
use Rattle.std.proofs.lemmas.List.{length-map, map-append}
use Rattle.il_machine.specs.Lists.{first_of_these}
use Rattle.il_machine.specs.Components.{GetHandle, name_refusals}
use Rattle.graph_core.specs.Entries.{kept, look_of}
use Rattle.stock_laws.specs.Bare.{StepsBare}
use Rattle.omx_types.specs.declared.error.CallError.TheVariants.{OutOfMemory}
use Rattle.machine_laws.proofs.Coming.{kind_sized}
use Rattle.il_machine.specs.Run.{Step}
use Rattle.audio_parts.specs.declared.any_part.AnyPart.{AnyPart}
use Rattle.audio_parts.specs.Shown.{ShownPart, shown_by}
use Rattle.il_graph.specs.Shown.{Shown}
use Rattle.il_graph.proofs.Naming.{found_kind, found_error, name_refused, full_refused, memory_wanted, made}
use Rattle.graph_core.proofs.Clients.{in_now}
use Rattle.il_graph.proofs.Clients.{same_clients}
use Rattle.il_graph.proofs.Coming.{HasCome, has_come}
use Rattle.il_graph.proofs.Newly.{new_done, new_tied, not_full}
use Rattle.il_graph.proofs.Whole.{files_over, still_whole, whole_over}
use Rattle.il_graph.proofs.HandedIn.{keeps_over, keeps_alike, keeps_same}
use Rattle.il_machine.specs.Acts as acts
use Rattle.il_graph.proofs.graph.Graph.get_handle.Given.{Over}
use Rattle.il_graph.proofs.graph.Graph.get_handle.Goals.{After-close_out, In-Err-add}
use Rattle.il_graph.proofs.graph.Graph.get_handle.Goals as goal

pub returns-in-Err-clause-step : goal.returns-in-Err-clause-step
returns-in-Err-clause-step g c =
    let p = g.C.Client.progress in
    let G = c.self.inside.core in
    rw (← c.self.view_is) (whole_over p _ c.self.inside.core (acts.GetHandle c.args.name.now) (acts.Got _) tt c.self.invariant.1 (λ w B. tt) (name_refused (kept p G) c.args.name.now c.in-Err.error (found_error c.args.name.now c.in-Err.error (first_of_these (name_refusals c.args.name.now)) c.in-Err.ensures)))

pub returns-then-is_full-clause-step : goal.returns-then-is_full-clause-step
returns-then-is_full-clause-step g c =
    let p = g.C.Client.progress in
    let G = c.self.inside.core in
    let f = found_kind c.args.name.now c.in-Ok.kind (first_of_these (name_refusals c.args.name.now)) c.in-Ok.ensures in
    rw (← c.self.view_is) (whole_over p _ c.self.inside.core (acts.GetHandle c.args.name.now) (acts.Got _) tt c.self.invariant.1 (λ w B. tt) (full_refused (kept p G) c.args.name.now f.0 (sym c.if-is_full.true ∙ c.is_full.ensures)))

pub new_part-requires : goal.new_part-requires
new_part-requires g c =
    let f = found_kind c.args.name.now c.in-Ok.kind (first_of_these (name_refusals c.args.name.now)) c.in-Ok.ensures in
    kind_sized c.args.name.now c.in-Ok.kind f.1

pub add-requires-clause-sized : goal.add-requires-clause-sized
add-requires-clause-sized g c =
    let f = found_kind c.args.name.now c.in-Ok.kind (first_of_these (name_refusals c.args.name.now)) c.in-Ok.ensures in
    kind_sized c.args.name.now c.in-Ok.kind f.1

pub returns-in-Err-clause-held : goal.returns-in-Err-clause-held
returns-in-Err-clause-held g c = rw (← c.self.view_is) (keeps_same g.C.Client.progress c.self.inside.core)

pub returns-then-is_full-clause-held : goal.returns-then-is_full-clause-held
returns-then-is_full-clause-held g c = rw (← c.self.view_is) (keeps_same g.C.Client.progress c.self.inside.core)

pub returns-in_default-clause-step : goal.returns-in_default-clause-step
returns-in_default-clause-step g c =
    let p = g.C.Client.progress in
    let G = c.self.inside.core in
    let f = found_kind c.args.name.now c.in-Ok.kind (first_of_these (name_refusals c.args.name.now)) c.in-Ok.ensures in
    rw (← c.self.view_is) (whole_over p _ G (acts.GetHandle c.args.name.now) (acts.Got _) tt c.self.invariant.1 (λ w B. tt) (memory_wanted (kept p G) c.args.name.now f.0 (sym c.if-is_full.false ∙ c.is_full.ensures)))

pub returns-in-Err-add-clause-held : goal.returns-in-Err-add-clause-held
returns-in-Err-add-clause-held g c = rw (← c.self.view_is) (keeps_alike g.C.Client.progress c.self.inside.core c.add.new.self c.in-Err-add.ensures.unchanged)

pub returns-in-Err-add-clause-clients_unchanged : goal.returns-in-Err-add-clause-clients_unchanged
returns-in-Err-add-clause-clients_unchanged g c = rw (← c.self.view_is) (same_clients c.self.inside.core c.add.new.self c.in-Err-add.ensures.entries_unchanged)

pub invariant_of-self : goal.invariant_of-self
invariant_of-self g c = (c.self.invariant.0, still_whole g.C.Client.progress _ c.add.new.self c.in-Err-add.ensures.unchanged c.self.invariant.1)

pub put_last-requires : goal.put_last-requires
put_last-requires g c =
    let G = c.self.inside.core in
    let few = not_full (look_of G) (sym c.if-is_full.false ∙ c.is_full.ensures) in
    let n = c.self.invariant.1.count in
    let m = length-map c.self.inside.parts.items (option_map (shown_by g.S.Source.told g.K.Sink.told g.K.Sink.name)) in
    let l = c.self.inside.parts.ok.0 in
    let cap = c.self.invariant.0 in
    omega (arith, few, n, m, l, cap)

-- ---- what the call leaves

module _ (g : Over) (c : After-close_out g) where
  abbrev shows : AnyPart g.row.S.Denot g.row.K.Denot g.S.Source g.K.Sink → ShownPart g.row.S.Denot g.row.K.Denot
  shows = shown_by g.S.Source.told g.K.Sink.told g.K.Sink.name

  abbrev before : Shown g.row.S.Denot g.row.K.Denot g.row.C.Denot
  before = record { core = c.self.inside.core; parts = map (option_map shows) c.self.inside.parts.items }

  -- the core's step
  X : StepsBare (kept g.C.Client.progress before.core) (kept g.C.Client.progress c.close_out.new.self) (λ w v. Step w (acts.GetHandle c.args.name.now) (acts.Got (Ok c.in-Ok-add.h)) v)
  X =
      let p = g.C.Client.progress in
      let f = found_kind c.args.name.now c.in-Ok.kind (first_of_these (name_refusals c.args.name.now)) c.in-Ok.ensures in
      made (kept p before.core) (kept p c.add.new.self) (kept p c.close_out.new.self) c.args.name.now c.in-Ok.kind c.in-Ok-add.h f.0 f.1
      (sym c.if-is_full.false ∙ c.is_full.ensures) c.in-Ok-add.ensures.generation c.in-Ok-add.ensures.vacant c.in-Ok-add.ensures.made c.close_out.ensures.closes

  D : HasCome g.C.Client.progress before c.close_out.new.self c.args.name.now c.in-Ok-add.h (shows c.in-Ok-new_part.part)
  D =
      let h = c.in-Ok-add.h in
      let kind = c.in-Ok.kind in
      let q = shows c.in-Ok-new_part.part in
      let f = found_kind c.args.name.now kind (first_of_these (name_refusals c.args.name.now)) c.in-Ok.ensures in
      has_come g.C.Client.progress before c.close_out.new.self c.args.name.now h kind c.self.invariant.1 f.1 c.in-Ok-add.ensures.generation X q (new_done h kind q c.in-Ok-new_part.ensures) (new_tied h kind q c.in-Ok-new_part.ensures)

  after : map (option_map shows) c.put_last.new.parts.items ≡ before.parts ++ Some (shows c.in-Ok-new_part.part) ∷ []
  after = ap (map (option_map shows)) c.put_last.ensures.items ∙ map-append (option_map shows) c.self.inside.parts.items (Some c.in-Ok-new_part.part ∷ [])

pub invariant_of-self-2 : goal.invariant_of-self-2
invariant_of-self-2 g c =
    let d = (goal.at.invariant_of-self-2 g c).After-close_out in
    (let a = c.self.invariant.0 in let b = c.put_last.ensures.capacity in omega (arith, a, b), rw (after g d) ((D g d).whole c.close_out.ensures.settled))

pub returns : goal.returns
returns g c =
    let d = (goal.at.returns g c).After-close_out in
    record {
      step = rw (← c.self.view_is, after g d) (D g d).step;
      client = ap in_now (c.close_out.ensures.clients c.in-Ok-add.h) ∙ c.in-Ok-add.ensures.client;
      clients = rw (← c.self.view_is) (λ k d. c.close_out.ensures.clients k ∙ c.in-Ok-add.ensures.clients k d);
      file = rw (after g d) ((D g d).own c.in-Ok-new_part.ensures.file);
      files = rw (← c.self.view_is, after g d) (D g d).others;
      held = rw (← c.self.view_is) (keeps_over g.C.Client.progress c.self.inside.core c.close_out.new.self (acts.GetHandle c.args.name.now) (acts.Got (Ok c.in-Ok-add.h)) refl refl (λ w. tt) c.law_of_worlds.ensures.one (X g d));
      handed_back = tt;
      refused = tt;
      unchanged = tt;
      clients_unchanged = tt;
      files_unchanged = tt;
    }

-- ---- what it leaves where the core had no memory

lacking : (g : Over) (c : In-Err-add g) → StepsBare (kept g.C.Client.progress c.self.inside.core) (kept g.C.Client.progress c.add.new.self) (λ w v. Step w (acts.GetHandle c.args.name.now) (acts.Got (Err OutOfMemory)) v)
lacking g c =
    let G = c.self.inside.core in
    let f = found_kind c.args.name.now c.in-Ok.kind (first_of_these (name_refusals c.args.name.now)) c.in-Ok.ensures in
    subst (λ k. StepsBare (kept g.C.Client.progress G) k (λ w v. GetHandle w c.args.name.now (Err OutOfMemory) v)) (sym c.in-Err-add.ensures.unchanged) (memory_wanted (kept g.C.Client.progress G) c.args.name.now f.0 (sym c.if-is_full.false ∙ c.is_full.ensures))

pub returns-in-Err-add-clause-step : goal.returns-in-Err-add-clause-step
returns-in-Err-add-clause-step g c =
    rw (← c.self.view_is) (whole_over g.C.Client.progress _ c.add.new.self (acts.GetHandle c.args.name.now) (acts.Got _) tt c.self.invariant.1 (λ w B. tt) (lacking g (goal.at.returns-in-Err-add-clause-step g c).In-Err-add))

pub returns-in-Err-add-clause-files_unchanged : goal.returns-in-Err-add-clause-files_unchanged
returns-in-Err-add-clause-files_unchanged g c =
    rw (← c.self.view_is) (files_over g.C.Client.progress _ c.add.new.self (acts.GetHandle c.args.name.now) (acts.Got (Err OutOfMemory)) tt c.self.invariant.1 (λ w B. tt) (lacking g (goal.at.returns-in-Err-add-clause-files_unchanged g c).In-Err-add))
