-- A component reaches the state that is pending, but for the second Idle.
use Rattle.std.proofs.Common.{◌≡◌, ◌≢◌, inl, inr, ℕ, zero, suc, ◌<◌, ◌≤◌, Bool, true, false, not, ◌&&◌, nat_eq, nat_le, if◌then◌else◌, List, [], ◌∷◌, ◌++◌, map, slice_get, Option, Some, None, refl, sym, ◌∙◌, ap, subst, ne_eqb, leb-true, leb-false, append_assoc, arith}
use Rattle.std.proofs.lemmas.Bool.{cases_eq}
use Rattle.omx_types.specs.declared.command.Completion.TheVariants as completions
use Rattle.omx_types.specs.declared.command.Event.TheVariants.{CmdComplete}
use Rattle.omx_types.specs.declared.command.Note.{Note}
use Rattle.omx_types.specs.declared.command.Note.TheVariants.{Told}
use Rattle.il_machine.specs.declared.answer.Pending.{Pending}
use Rattle.il_machine.specs.declared.port.PortState.{PortState}
use Rattle.il_machine.specs.Due.{Transition, arrived, happened, transition_happened, unheld}
use Rattle.il_machine.specs.Finishing.{end_note}
use Rattle.il_machine.specs.Queued.{notes_given}
use Rattle.il_machine.specs.Sound.{Sound}
use Rattle.il_machine.specs.World.{Component, World, number_of, told, with_component}
use Rattle.machine_laws.proofs.Finding.{either}
use Rattle.machine_laws.proofs.Keys.{none_or_some}
use Rattle.stock_laws.proofs.Leaving.{and_false_right}
use Rattle.play_model.specs.Network.{Flow}
use Rattle.play_model.specs.Acts.{Act, CanAct, acted, reset_all}
use Rattle.play_model.specs.Play.{Play, component_at}
use Rattle.play_model.specs.Reached.{IsReached}
use Rattle.play_model.proofs.Handing.{act_reaches}
use Rattle.play_world_laws.specs.Cast.{components_of, links_of, script_place}
use Rattle.play_world_laws.specs.Standing.{before, commands_at, holds_at as holds_now, pending_to, standing, target}
use Rattle.play_world_laws.specs.Telling.{heard, last_told, out_of, state_note}
use Rattle.play_world_laws.specs.Worlds.{ends_untold}
use Rattle.play_world_laws.proofs.Arrivals.{reached_told}
use Rattle.play_world_laws.proofs.Rooms.{port_of_state}
use Rattle.play_world_laws.proofs.Sends.{stage_else, stage_here}
use Rattle.play_world_laws.specs.PlayWorlds.{IsActorAt, IsPlayWorld, PlayCast, announced_note, port_commands, port_notes, settings_notes, settings_of_end}
use Rattle.play_world_laws.proofs.Kept.{IsGoingOn, actor_goes_on, kept}
use Rattle.play_world_laws.proofs.QueuedLists.{links_none}
use Rattle.play_world_laws.proofs.Calm.{appended, no_commands, no_port_notes, stands_so}
use Rattle.play_world_laws.proofs.StageSends.{heard_on}
use Rattle.play_world_laws.specs.Waiting.{IsWaiting}
use Rattle.play_world_laws.proofs.CalmHappenings.{its_port}

-- ---- nothing is queued at a component whose StateSet is under way

untold_going : (a b t : Bool) → b ≡ false → (a && b && not t) ≡ false
untold_going true b t e = rw e refl
untold_going false b t e = refl

untold_told : (a b t : Bool) → t ≡ true → (a && b && not t) ≡ false
untold_told a b t e = rw e (and_false_right (a && b))

module _ (x : PlayCast) (recent : ℕ) (p : Play) (w : World) (W : IsPlayWorld x recent p w) (V : IsWaiting (x.cast).layout p) (c : ℕ) (l : c < components_of x.cast) (a : Component) (A : IsActorAt x recent p w c a) (z : p.stage c ≡ 2) where
  pub nothing_untold : ends_untold x.cast p c ≡ false
  nothing_untold =
      let sink : Bool = ((x.cast).layout).is_sink c in
      let ended : Bool = (p.flow).ended c in
      either sink
      (λ s. either (nat_le p.phase 1)
      (λ t. let O = (W.reached).opening (leb-true p.phase 1 t) in untold_going sink ended (p.told c) (O.going c))
      (λ f.
      let g = leb-false p.phase 1 f in
      either (nat_le p.phase 2)
      (λ t. let l = leb-true p.phase 2 t in untold_going sink ended (p.told c) (A.running (omega arith) (omega arith)))
      (λ t. let h = leb-false p.phase 2 t in untold_told sink ended (p.told c) (A.over h s))))
      (λ f. rw f refl)

  quiet_note : (n port : ℕ) → n ≢ 1 → announced_note n port ≡ []
  quiet_note zero port h = refl
  quiet_note (suc zero) port h = absurd (h refl)
  quiet_note (suc (suc n)) port h = refl

  pub no_settings : settings_notes x.cast p c ≡ []
  no_settings = links_none (x.cast).layout (settings_of_end x.cast p) c (links_of x.cast) none
    where
      none : (s : Bool) (k : ℕ) → k < links_of x.cast → ((x.cast).layout).is_late k ≡ true → component_at (x.cast).layout s k ≡ c → settings_of_end x.cast p s k ≡ []
      none false k b t g = refl
      none true k b t g =
          let K = (W.reached).changes k b in
          let at : p.stage (component_at (x.cast).layout true k) ≡ 2 = ap p.stage g ∙ z in
          quiet_note (p.change k).step ((x.cast).output_port k) (λ one. either (nat_le p.phase 1)
          (λ u. let s = K.early (leb-true p.phase 1 u) in omega arith)
          (λ u.
          let h = leb-false p.phase 1 u in
          either (nat_le p.phase 2)
          (λ y. let j = leb-true p.phase 2 y in let s = V k b t (omega arith) (omega arith) in omega arith)
          (λ y. let s = K.over (leb-false p.phase 2 y) t in omega (arith, s.0, one))))

-- ---- the component as it comes

abbrev came : ℕ → Component → Component
came phase a = told (CmdComplete (completions.State (target phase))) (record a { state = target phase; pending = None; holds = holds_now phase 3; waiting = None })

abbrev came_down : Component → Component
came_down a = told (CmdComplete (completions.State (target 4))) (record a { state = target 4; pending = None; holds = false; waiting = None; ports = map unheld a.ports })

came_stands : (phase : ℕ) (a : Component) → a ≡ standing phase 2 a → came phase a ≡ standing phase 3 (came phase a)
came_stands phase a e = subst (λ (z : Component). came phase z ≡ standing phase 3 (came phase z)) (sym e) refl

arrives : (n phase : ℕ) (a : Component) → 1 ≤ phase → phase ≤ 2 → a ≡ standing phase 2 a → arrived n (pending_to (target phase)) a ≡ came phase a
arrives n zero a l m e = absurd (omega arith)
arrives n (suc zero) a l m e = subst (λ (z : Component). arrived n (pending_to (target 1)) z ≡ came 1 z) (sym e) refl
arrives n (suc (suc zero)) a l m e = subst (λ (z : Component). arrived n (pending_to (target 2)) z ≡ came 2 z) (sym e) refl
arrives n (suc (suc (suc k))) a l m e = absurd (omega arith)

arrives_down : (n : ℕ) (a : Component) → a ≡ standing 4 2 a → arrived n (pending_to (target 4)) a ≡ came_down a
arrives_down n a e = subst (λ (z : Component). arrived n (pending_to (target 4)) z ≡ came_down z) (sym e) refl

unheld_all : (ss : List PortState) → ((k : ℕ) (s : PortState) → slice_get ss k ≡ Some s → s.held ≡ false) → map unheld ss ≡ ss
unheld_all [] h = refl
unheld_all (s ∷ ss) h =
    let f : false ≡ s.held = sym (h 0 s refl) in
    let here : unheld s ≡ s = λ i. record s { held = f i } in
    let rest = unheld_all ss (λ k y e. h (suc k) y e) in
    λ i. here i ∷ rest i

-- but for the second Idle no header is reset
moves : (phase i : ℕ) (a : Component) (w : World) → 1 ≤ phase → phase ≤ 4 → phase ≢ 3 → a.state ≡ before phase
    → transition_happened i a (Some (pending_to (target phase))) w ≡ with_component i (arrived w.waits (pending_to (target phase)) a) w
moves zero i a w l m n s = absurd (omega arith)
moves (suc zero) i a w l m n s = rw s refl
moves (suc (suc zero)) i a w l m n s = refl
moves (suc (suc (suc zero))) i a w l m n s = absurd (n refl)
moves (suc (suc (suc (suc zero)))) i a w l m n s = refl
moves (suc (suc (suc (suc (suc k))))) i a w l m n s = absurd (omega arith)

-- ---- it happens

module _ (x : PlayCast) (recent : ℕ) (p : Play) (w : World) (W : IsPlayWorld x recent p w) (V : IsWaiting (x.cast).layout p) (c : ℕ) (l : c < components_of x.cast) (a : Component) (e : slice_get w.components (script_place x.cast c) ≡ Some a) (A : IsActorAt x recent p w c a) (z : p.stage c ≡ 2) where
  early : p.stage c ≢ 4
  early h = omega arith

  pub stood : a ≡ standing p.phase 2 a
  stood = subst (λ (k : ℕ). a ≡ standing p.phase k a) z (stands_so x recent p w W c l a e A early)

  pub begun_phase : 1 ≤ p.phase
  begun_phase = elim (cases_eq p.phase 0) [
    | inl s ↦ let f = (W.reached).first s c l in absurd (omega (arith, f, z))
    | inr s ↦ omega arith
  ]

  no_work : a.work ≡ None
  no_work = elim (none_or_some a.work) [
    | inl n ↦ n
    | inr k ↦ let K = A.work k.0 k.1 in let s = K.stage in absurd (omega arith)
  ]

  -- what it tells is all that is queued then
  pub told_alone : (note : Note) → out_of a.client_out (notes_given (number_of a) w) ++ (a.notes ++ note ∷ []) ≡ note ∷ []
  told_alone note =
      let out : List Note = out_of a.client_out (notes_given (number_of a) w) in
      let s1 = no_settings x recent p w W V c l a A z in
      let s2 = no_port_notes x recent p w W c l a e A early in
      let s3 = nothing_untold x recent p w W V c l a A z in
      let was : out ++ a.notes ≡ [] = A.notes ∙ (λ t. state_note p.phase (z t) ++ (s1 t ++ (s2 t ++ end_note (s3 t)))) in
      sym (append_assoc out a.notes (note ∷ [])) ∙ ap (λ (g : List Note). g ++ note ∷ []) was

  -- and nothing is queued of its ports, whatever the flow
  pub tells_so : (note : Note) (f : Flow) (ended : f.ended ≡ (p.flow).ended) → state_note p.phase 3 ≡ note ∷ []
      → note ∷ [] ≡ state_note p.phase 3 ++ (settings_notes x.cast p c ++ (port_notes x.cast p c ++ end_note (ends_untold x.cast (record p { flow = f }) c)))
  tells_so note f ended says =
      let s1 = no_settings x recent p w W V c l a A z in
      let s2 = no_port_notes x recent p w W c l a e A early in
      let s3 : ends_untold x.cast (record p { flow = f }) c ≡ false = (λ t. ((x.cast).layout).is_sink c && ended t c && not (p.told c)) ∙ nothing_untold x recent p w W V c l a A z in
      sym (λ t. says t ++ (s1 t ++ (s2 t ++ end_note (s3 t))))

  module _ (n : p.phase ≢ 3) where
    abbrev q : Play
    q = acted (x.cast).layout (Act.Happen c) p

    abbrev r : Play
    r = record p { stage = q.stage; told = p.told }

    abbrev b : Component
    b = came p.phase a

    abbrev v : World
    v = with_component (script_place x.cast c) b w

    three : q.stage c ≡ 3
    three = stage_here p c 3

    same : q ≡ r
    same = let f : nat_eq p.phase 3 ≡ false = ne_eqb p.phase 3 n in λ i. record r { flow = if f i then reset_all (x.cast).layout c p.flow else p.flow }

    going : IsGoingOn x recent p q.stage p.told w v c a b
    going =
        let cs = no_commands x recent p w W c l a e A early in
        let note : Note = Told (CmdComplete (completions.State (target p.phase))) in
        let there : b ≡ standing p.phase 3 b = came_stands p.phase a stood in
        record {
          handle = refl;
          settings = refl;
          file = refl;
          part = refl;
          keeps_told = λ h. h;
          stands = there ∙ (λ t. record (standing p.phase (sym three t) b) { commands = (appended (commands_at p.phase 3) (port_commands x.cast p c) cs ∙ ap (λ (k : ℕ). commands_at p.phase k ++ port_commands x.cast p c) (sym three)) t });
          notes = told_alone note ∙ (tells_so note p.flow refl refl ∙ (λ t. state_note p.phase (sym three t) ++ (settings_notes x.cast p c ++ (port_notes x.cast p c ++ end_note (ends_untold x.cast p c)))));
          heard_so = heard_on x recent p q.stage c (heard w a) (ap (λ k. last_told p.phase k) three ∙ (reached_told p.phase ∙ ap (λ k. last_told p.phase k) (sym z))) A.heard_so;
          out = A.out;
          work = λ work f. let n : None ≡ Some work = sym no_work ∙ f in absurd cc;
          before = λ B. ((λ h. absurd (n h)), B.1);
          ran = λ h. absurd (omega (arith, three));
        }

    never_held : p.phase ≡ 4 → map unheld a.ports ≡ a.ports
    never_held four = unheld_all a.ports (λ k s f.
        let y = port_of_state w (script_place x.cast c) k a s W.sound e f in
        let P = its_port x recent p w W (λ h. omega arith) c a l e A k y.0 y.1 in
        ap (λ (u : PortState). u.held) (sym y.2 ∙ (P.end).state))

    -- the component is as it came, in whichever phase
    is_come : arrived w.waits (pending_to (target p.phase)) a ≡ b
    is_come = elim (cases_eq p.phase 4) [
      | inl f ↦
          let s4 : a ≡ standing 4 2 a = subst (λ (k : ℕ). a ≡ standing k 2 a) f stood in
          let ports = never_held f in
          let d : arrived w.waits (pending_to (target 4)) a ≡ came 4 a = arrives_down w.waits a s4 ∙ (λ i. told (CmdComplete (completions.State (target 4))) (record a { state = target 4; pending = None; holds = false; waiting = None; ports = ports i })) in
          subst (λ (k : ℕ). arrived w.waits (pending_to (target k)) a ≡ came k a) (sym f) d
      | inr f ↦ let m = (W.reached).phase in let s = begun_phase in arrives w.waits p.phase a begun_phase (omega arith) stood
    ]

    happened_is : happened (script_place x.cast c) a Transition w ≡ v
    happened_is =
        let g : a.pending ≡ Some (pending_to (target p.phase)) = ap (λ (y : Component). y.pending) stood in
        let s : a.state ≡ before p.phase = ap (λ (y : Component). y.state) stood in
        ap (λ (o : Option Pending). transition_happened (script_place x.cast c) a o w) g ∙ (moves p.phase (script_place x.cast c) a w begun_phase (W.reached).phase n s ∙ ap (λ (y : Component). with_component (script_place x.cast c) y w) is_come)

    pub comes : CanAct (x.cast).layout p (Act.Happen c) → Sound (happened (script_place x.cast c) a Transition w) → IsPlayWorld x recent q (happened (script_place x.cast c) a Transition w)
    comes C S =
        let R = subst (λ (y : Play). IsReached (x.cast).layout y) same (act_reaches (x.cast).layout p (Act.Happen c) W.reached C) in
        let P = kept x recent p q.stage p.told w v c a b W (record {
          inside = l;
          there = e;
          components = refl;
          headers = refl;
          made = refl;
          units = refl;
          streams = refl;
          given = λ k d. refl;
          handle = refl;
          settings = refl;
          ports = refl;
          works = λ port. refl;
          stage_else = λ k d. stage_else p c k 3 d;
          told_else = λ k d. refl;
        }) R (subst Sound happened_is S) (actor_goes_on x recent p q.stage p.told w v c a b refl going A) in
        subst (λ (y : World). IsPlayWorld x recent q y) (sym happened_is) (subst (λ (y : Play). IsPlayWorld x recent y v) (sym same) P)
