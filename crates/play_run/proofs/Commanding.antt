-- A component's command is run.
use Rattle.std.proofs.Common.{◌≡◌, ◌<◌, ℕ, Bool, true, false, length, Some, Ok, Result, refl, sym, ◌∙◌, ap, subst, arith}
use Rattle.std.specs.Prelude.{OnErr}
use Rattle.omx_types.specs.declared.handle.Handle.{Handle}
use Rattle.omx_types.specs.declared.error.OmxError.{OmxError}
use Rattle.il_machine.specs.declared.answer.Acted.{Acted}
use Rattle.il_machine.specs.declared.answer.Acted.TheVariants.{Did}
use Rattle.il_machine.specs.declared.answer.Progress.{Progress}
use Rattle.il_machine.specs.Acts as acts
use Rattle.il_machine.specs.Commands.{RunCommand}
use Rattle.il_machine.specs.Whole.{Steps}
use Rattle.graph_core.specs.Clients.{KeepsAllClients}
use Rattle.il_graph.specs.Shown.{Shown}
use Rattle.il_graph.specs.Stood.{OnIdle}
use Rattle.play_model.specs.Play.{Play}
use Rattle.play_loop.specs.Turns.{SomePlay}
use Rattle.play_log.specs.Kept.{LogValue}
use Rattle.play_world_laws.specs.Worlds.{Names}
use Rattle.play_plan_laws.specs.Casting.{place_of}
use Rattle.play_plan_laws.proofs.Turns.{all_turns}
use Rattle.play_graph.specs.Graphs.{IsHandleAt, kept_of}
use Rattle.play_plan_laws.specs.Assemblies.{play_cast_of}
use Rattle.play_turn_laws.specs.Turns.{IsRunOf, is_did}
use Rattle.play_turn_laws.proofs.Coming.{runs_come}
use Rattle.play_run.specs.Playing.{AsksIn, IsPlaying, IsStanding, PlayingValue, TurnsTo, cast, layout_of}
use Rattle.play_run.specs.Recording.{IsRecorded, IsToldOf}
use Rattle.play_graph.proofs.Naming.{named_at}
use Rattle.play_run.proofs.Working.{still_none}
use Rattle.play_run.proofs.Recording.{own_on}
use Rattle.il_graph.proofs.PartsStay.{step_stays}
use Rattle.play_run.proofs.Streaming.{RunsOn, StreamsGo, streams_go}
use Rattle.play_run.proofs.Files.{told_same}
use Rattle.play_run.proofs.Answering.{is_ok, keeps_in, not_did, turn_goes, with_both}

module _ {S K : Type 0} where
  -- ---- a component by its turn

  pub turn_there : (x : PlayingValue S K) (c : ℕ) → SomePlay (IsPlaying x) → c < length x.plan.parts → c < length x.plan.order
  turn_there x c (p, Y) b = let n = all_turns x.plan.joints (length x.plan.parts) x.plan.order Y.standing.valid.placed in omega arith

  pub place_there : (x : PlayingValue S K) (c place : ℕ) → SomePlay (IsPlaying x) → c < length x.plan.parts → place ≡ place_of x.plan c → place < length x.plan.parts
  place_there x c place (p, Y) b e = subst (λ (k : ℕ). k < length x.plan.parts) (sym e) (((Y.standing).conducted).play.cast_is.placed c b)

  pub component_named_in : (x : PlayingValue S K) (c place : ℕ) (h : Handle) → place ≡ place_of x.plan c → IsHandleAt x.graph place h → (p : Play) (Z : IsStanding x p) → Names (cast x.plan) Z.world c h
  component_named_in x c place h e H p Z = named_at Z.world place h ((Z.conducted).play).sound (H Z.world Z.stands) ∙ ap Some e

  -- ---- its command

  ran : (x : PlayingValue S K) (g : Shown S K Progress) (log : LogValue) (c place : ℕ) (h : Handle) (r : Result Acted OmxError) → c < length x.plan.parts → place ≡ place_of x.plan c → IsHandleAt x.graph place h → KeepsAllClients x.graph.core g.core
      → RunsOn (play_cast_of x.plan) c h r → Steps (kept_of x.graph) (kept_of g) (λ w v. RunCommand w h r v) → OnErr r (g ≡ x.graph) → OnIdle r (g ≡ x.graph)
      → (is_did r ≡ false → log ≡ x.log) → (is_did r ≡ true → IsToldOf x.plan.parts place x.log (λ k. acts.RunCommand k) (acts.Acted (Ok Did)) log) → TurnsTo x (with_both x g log) (is_did r) (IsRunOf (layout_of x.plan) c)
  ran x g log c place h r b e H keeps streams steps er id silent told = λ p Y.
      let y = play_cast_of x.plan in
      let Z = Y.standing in
      let w = Z.world in
      let W = (Z.conducted).play in
      let v = steps w Z.stands in
      let N = component_named_in x c place h e H p Z in
      let R : is_did r ≡ true → IsRecorded x.plan.parts Z.opening v.0 log (AsksIn x p Z) = λ t. own_on x p Y place h H v.0 (λ k. acts.RunCommand k) (acts.Acted (Ok Did)) log (told t) refl tt
      (subst (λ (a : Result Acted OmxError). RunCommand w h a v.0) (is_ok r t) v.2) tt (λ n. refl) refl in
      let F : StreamsGo y p Z.opening v.0 = streams_go y p Z.opening w v.0 Z.streams (streams Z.recent p w v.0 W b N v.2) in
      turn_goes x g log p v.0 (is_did r) (IsRunOf (layout_of x.plan) c) Y v.1
      (still_none w (acts.RunCommand h) (acts.Acted r) v.0 W.sound tt v.2 (λ n. refl) Z.works)
      (keeps_in x.graph.core g.core keeps Z.clients) (not_did r er id) silent R (λ t. F) (λ t. told_same Z.opening w v.0 Z.told (step_stays w W.sound (acts.RunCommand h) (acts.Acted r) v.0 tt tt v.2).streams)
      (runs_come y Z.recent p w c h r v.0 W b N v.2)

  pub run_turns : (y x : PlayingValue S K) → y ≡ x → (g : Shown S K Progress) (log : LogValue) (c place : ℕ) (h : Handle) (r : Result Acted OmxError) (d : Bool) → c < length x.plan.parts → place ≡ place_of x.plan c → IsHandleAt x.graph place h
      → KeepsAllClients y.graph.core g.core → RunsOn (play_cast_of y.plan) c h r → Steps (kept_of y.graph) (kept_of g) (λ w v. RunCommand w h r v) → OnErr r (g ≡ y.graph) → OnIdle r (g ≡ y.graph) → d ≡ is_did r
      → (d ≡ false → log ≡ y.log) → (d ≡ true → IsToldOf y.plan.parts place y.log (λ k. acts.RunCommand k) (acts.Acted (Ok Did)) log) → TurnsTo x (with_both y g log) d (IsRunOf (layout_of x.plan) c)
  run_turns y x is g log c place h r d b J H keeps streams steps e i D silent told =
      subst (λ (z : PlayingValue S K). c < length z.plan.parts → place ≡ place_of z.plan c → IsHandleAt z.graph place h → TurnsTo z (with_both y g log) d (IsRunOf (layout_of z.plan) c)) is
      (λ b J H. subst (λ (o : Bool). TurnsTo y (with_both y g log) o (IsRunOf (layout_of y.plan) c)) (sym D) (ran y g log c place h r b J H keeps streams steps e i (λ f. silent (D ∙ f)) (λ t. told (D ∙ t))))
      b J H
