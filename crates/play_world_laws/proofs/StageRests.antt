-- A component reaches the second Idle: its headers at home are reset.
use Rattle.std.proofs.Common.{◌≡◌, ◌≢◌, inl, inr, ℕ, ◌<◌, ◌≤◌, Bool, true, false, not, if◌then◌else◌, List, [], ◌∷◌, ◌++◌, slice_get, Option, Some, None, option_and_then, refl, sym, ◌∙◌, ap, subst, eq-eqb, ne_eqb, arith}
use Rattle.std.proofs.lemmas.Bool.{cases_eq}
use Rattle.std.proofs.lemmas.List.{length-set}
use Rattle.omx_types.specs.declared.command.Completion.TheVariants as completions
use Rattle.omx_types.specs.declared.command.Event.TheVariants.{CmdComplete}
use Rattle.omx_types.specs.declared.command.Note.{Note}
use Rattle.omx_types.specs.declared.command.Note.TheVariants.{Told}
use Rattle.omx_types.specs.declared.state.State.TheVariants as states
use Rattle.il_machine.specs.declared.answer.Pending.{Pending}
use Rattle.il_machine.specs.declared.port.Port.{Port}
use Rattle.il_machine.specs.declared.port.PortKey.{PortKey}
use Rattle.il_machine.specs.Due.{Transition, arrived, each_port, happened, reset_on, reset_ports, restarted, transition_happened}
use Rattle.il_machine.specs.Finishing.{end_note}
use Rattle.il_machine.specs.Headers.{is_for, same_key, seen}
use Rattle.il_machine.specs.Ports.{is_supplied_by, is_supplier, settled}
use Rattle.il_machine.specs.Sound.{Sound}
use Rattle.il_machine.specs.States.{is_down}
use Rattle.il_machine.specs.Units.{need_of}
use Rattle.il_machine.specs.World.{Component, HeaderRecord, World, port_of, ports_of, told, with_component}
use Rattle.machine_laws.proofs.Every.{all_pass, at_set}
use Rattle.machine_laws.proofs.Finding.{either}
use Rattle.machine_laws.proofs.Keys.{key_is, key_same}
use Rattle.stock_laws.proofs.Keys.{same_key-sym}
use Rattle.play_model.specs.Network.{LinkState, headers_of}
use Rattle.play_model.specs.Acts.{Act, CanAct, acted, reset_all, reset_link, with_stage}
use Rattle.play_model.specs.Play.{Layout, Play, component_at, supplier}
use Rattle.play_model.specs.Reached.{IsReached}
use Rattle.play_model.proofs.Handing.{act_reaches}
use Rattle.play_model.proofs.Reaching.{reset_headers}
use Rattle.play_world_laws.specs.View.{LinkEnds, link_view, worked_at}
use Rattle.play_world_laws.proofs.Counts.{keys_apart}
use Rattle.play_world_laws.specs.Cast.{Cast, IsCast, components_of, home_at, home_by, input_at, links_of, output_at, script_place}
use Rattle.play_world_laws.specs.Standing.{commands_at, pending_to, standing, target}
use Rattle.play_world_laws.specs.Telling.{last_told, state_note, unheard}
use Rattle.play_world_laws.specs.Wiring.{ends_of, link_to, port_in, work_in}
use Rattle.play_world_laws.specs.Worlds.{ends_untold}
use Rattle.play_world_laws.proofs.Arrivals.{reached_told}
use Rattle.play_world_laws.proofs.Lists.{got_set, sum_same}
use Rattle.play_world_laws.proofs.Passing.{view_as}
use Rattle.play_world_laws.proofs.Resetting.{Fits, IsHome, fit_each, hits_some, links_cleared, ports_cleared, reset_at, reset_if, reset_off}
use Rattle.play_world_laws.proofs.Sends.{stage_else, stage_here}
use Rattle.play_world_laws.specs.PlayWorlds.{IsActorAt, IsPlayWorld, PlayCast, end_of_link, left_to_make, port_commands, port_notes, port_number, settings_notes}
use Rattle.play_world_laws.proofs.Around.{ends_differ, sum_fewer, wired_moves}
use Rattle.play_world_laws.proofs.PassedHeaders.{left_keeps}
use Rattle.play_world_laws.proofs.Sides.{away_is, home_is, home_supplies, supplier_is}
use Rattle.play_world_laws.proofs.Calm.{appended, no_commands}
use Rattle.play_world_laws.specs.Waiting.{IsWaiting}
use Rattle.play_world_laws.proofs.Arriving.{stood, tells_so, told_alone}
use Rattle.play_world_laws.proofs.CalmHappenings.{IsCalmEnd, its_end, its_port, no_works}
use Rattle.play_world_laws.proofs.Settling.{IsEmptied, emptied, twice}

abbrev rested : Component → Component
rested a = told (CmdComplete (completions.State states.Idle)) (record a { state = states.Idle; pending = None; part = restarted a })

rest_arrives : (n : ℕ) (a : Component) → a ≡ standing 3 2 a → arrived n (pending_to (target 3)) a ≡ rested a
rest_arrives n a e = subst (λ (z : Component). arrived n (pending_to (target 3)) z ≡ rested z) (sym e) refl

rest_stands : (a : Component) → a ≡ standing 3 2 a → rested a ≡ standing 3 3 (rested a)
rest_stands a e = subst (λ (z : Component). rested z ≡ standing 3 3 (rested z)) (sym e) refl

reset_closed : (by : Bool) (y : LinkState) → ((reset_link by y).closed ≡ y.closed) × ((reset_link by y).taken ≡ y.taken)
reset_closed true y = (refl, refl)
reset_closed false y = (refl, refl)

rest_moves : (i : ℕ) (a : Component) (w : World) → a.state ≡ states.Executing → arrived w.waits (pending_to states.Idle) a ≡ rested a
    → transition_happened i a (Some (pending_to states.Idle)) w ≡ record (with_component i (rested a) w) { headers = reset_ports (ports_of a) w.headers }
rest_moves i a w s r =
    let d : is_down a.state ≡ false = ap is_down s in
    let h : reset_on a states.Idle w.headers ≡ reset_ports (ports_of a) w.headers = ap (λ (b : Bool). if b then w.headers else reset_ports (ports_of a) w.headers) d in
    λ j. record (with_component i (r j) w) { headers = h j }

-- a key is of one end of one link
same_end : (x : Cast) → IsCast x → (s t : Bool) (k l : ℕ) → k < links_of x → l < links_of x → end_of_link x s k ≡ end_of_link x t l → (k ≡ l) × (s ≡ t)
same_end x C s t k l a b e = elim (cases_eq k l) [
  | inl z ↦ (z, side s t (subst (λ (j : ℕ). end_of_link x s j ≡ end_of_link x t l) z e))
  | inr z ↦ absurd (ends_differ x C s t k l a b z e)
]
  where
    side : (s t : Bool) → end_of_link x s l ≡ end_of_link x t l → s ≡ t
    side true true h = refl
    side false false h = refl
    side true false h = absurd (C.beside l l b b h)
    side false true h = absurd (C.beside l l b b (sym h))

calm_supplies : (x : PlayCast) (p : Play) (w : World) (l : ℕ) (o : Bool) (q : Port) → IsCalmEnd x p w l o q → is_supplier q ≡ is_supplied_by (not o) (link_to x.cast l (end_of_link x.cast (not o) l))
calm_supplies x p w l o q E = let s = E.state in let d = E.direction in rw (s, d) refl

either_end : (x : Cast) (s : Bool) (k : ℕ) (key : PortKey) → same_key key (end_of_link x s k) ≡ false → same_key key (end_of_link x (not s) k) ≡ false → (same_key (output_at x k) key ≡ false) × (same_key (input_at x k) key ≡ false)
either_end x true k key a b = (same_key-sym (output_at x k) key ∙ a, same_key-sym (input_at x k) key ∙ b)
either_end x false k key a b = (same_key-sym (output_at x k) key ∙ b, same_key-sym (input_at x k) key ∙ a)

module _ (x : PlayCast) (recent : ℕ) (p : Play) (w : World) (W : IsPlayWorld x recent p w) (V : IsWaiting (x.cast).layout p) (c : ℕ) (l : c < components_of x.cast) (a : Component) (e : slice_get w.components (script_place x.cast c) ≡ Some a) (A : IsActorAt x recent p w c a) (z : p.stage c ≡ 2)
    (three : p.phase ≡ 3) (all : each_port a (settled (seen w.headers)) ≡ true) (free : a.work ≡ None) where
  abbrev net : Layout
  net = (x.cast).layout

  -- the play then
  abbrev q : Play
  q = record (with_stage c 3 p) { flow = reset_all net c p.flow }

  abbrev i : ℕ
  i = script_place x.cast c

  abbrev b : Component
  b = rested a

  abbrev ps : List Port
  ps = ports_of a

  abbrev ks : List HeaderRecord
  ks = reset_ports ps w.headers

  abbrev v : World
  v = record (with_component i b w) { headers = ks }

  abbrev works : PortKey → List ℕ
  works = work_in w.components

  not_two : p.phase ≢ 2
  not_two h = omega arith

  stands : a ≡ standing 3 2 a
  stands = subst (λ (k : ℕ). a ≡ standing k 2 a) three (stood x recent p w W V c l a e A z)

  now_three : q.stage c ≡ 3
  now_three = stage_here p c 3

  link_in : (k : ℕ) → supplier net k ≡ c → (q.flow).link k ≡ reset_link (net.by_output k) ((p.flow).link k)
  link_in k s = rw (eq-eqb (supplier net k) c s) refl

  link_out : (k : ℕ) → supplier net k ≢ c → (q.flow).link k ≡ (p.flow).link k
  link_out k s = rw (ne_eqb (supplier net k) c s) refl

  -- a field that a reset keeps
  same_field : {T : Type 0} (f : LinkState → T) → ((by : Bool) (y : LinkState) → f (reset_link by y) ≡ f y) → (k : ℕ) → f ((q.flow).link k) ≡ f ((p.flow).link k)
  same_field f h k = elim (cases_eq (supplier net k) c) [
    | inl s ↦ ap f (link_in k s) ∙ h (net.by_output k) ((p.flow).link k)
    | inr n ↦ ap f (link_out k n)
  ]

  closed_stays : (k : ℕ) → ((q.flow).link k).closed ≡ ((p.flow).link k).closed
  closed_stays = same_field (λ (y : LinkState). y.closed) (λ by y. (reset_closed by y).0)

  -- ---- the component

  rest_notes : unheard v b ≡ state_note p.phase (q.stage c) ++ (settings_notes x.cast q c ++ (port_notes x.cast q c ++ end_note (ends_untold x.cast q c)))
  rest_notes =
      let note : Note = Told (CmdComplete (completions.State states.Idle)) in
      let says : state_note p.phase 3 ≡ note ∷ [] = ap (λ (k : ℕ). state_note k 3) three in
      told_alone x recent p w W V c l a e A z note ∙ (tells_so x recent p w W V c l a e A z note q.flow refl says ∙ (λ t. state_note p.phase (sym now_three t) ++ (settings_notes x.cast q c ++ (port_notes x.cast q c ++ end_note (ends_untold x.cast q c)))))

  rest_actor : IsActorAt x recent q v c b
  rest_actor =
      let never : (q.stage c ≤ 2) → ⊥ = λ B. omega (arith, now_three) in
      let cs = no_commands x recent p w W c l a e A (λ h. omega arith) in
      let H = A.heard_so in
      record {
        number = A.number;
        stands = rest_stands a stands ∙ (λ t. record (standing (sym three t) (sym now_three t) b) { commands = (appended (commands_at 3 3) (port_commands x.cast p c) cs ∙ (λ u. commands_at (sym three u) (sym now_three u) ++ port_commands x.cast p c)) t });
        set_for = A.set_for;
        roomy = A.roomy;
        source = A.source;
        sink = A.sink;
        late = A.late;
        late_format = A.late_format;
        file = A.file;
        notes = rest_notes;
        heard_so = record { state = H.state ∙ (ap (last_told p.phase) z ∙ (sym (reached_told p.phase) ∙ ap (last_told p.phase) (sym now_three))); eos = H.eos; error = H.error; settings = H.settings; port = H.port; past = H.past; nothing = H.nothing };
        out = A.out;
        part = record {
          whole = (A.part).whole;
          ended = λ B. absurd (never (B.0 three));
          inputs = λ B k I. absurd (never (B.0 three));
        };
        done = A.done;
        work = λ work f. let s : None ≡ Some work = sym free ∙ f in absurd cc;
        running = λ h s. absurd (never s);
        over = A.over;
        unsteady = A.unsteady;
      }

  -- one that stays where it is
  actor_beside : (d : ℕ) (r : Component) → d ≢ c → IsActorAt x recent p w d r → IsActorAt x recent q v d r
  actor_beside d r n B =
      let same = stage_else p c d 3 n in
      let H = B.heard_so in
      record {
        number = B.number;
        stands = B.stands ∙ ap (λ (k : ℕ). record (standing p.phase k r) { commands = commands_at p.phase k ++ port_commands x.cast p d }) (sym same);
        set_for = B.set_for;
        roomy = B.roomy;
        source = B.source;
        sink = B.sink;
        late = B.late;
        late_format = B.late_format;
        file = B.file;
        notes = B.notes ∙ (λ t. state_note p.phase (sym same t) ++ (settings_notes x.cast q d ++ (port_notes x.cast q d ++ end_note (ends_untold x.cast q d))));
        heard_so = record { state = H.state ∙ ap (last_told p.phase) (sym same); eos = H.eos; error = H.error; settings = H.settings; port = H.port; past = H.past; nothing = H.nothing };
        out = B.out;
        part = record {
          whole = (B.part).whole;
          ended = λ R. (B.part).ended ((λ h. subst (λ (k : ℕ). k ≤ 2) same (R.0 h)), R.1);
          inputs = λ R k I. (B.part).inputs ((λ h. subst (λ (k : ℕ). k ≤ 2) same (R.0 h)), R.1) k I ∙ sym (closed_stays k);
        };
        done = B.done;
        work = λ work f. absurd (not_two (B.work work f).phase);
        running = λ h s. absurd (not_two h);
        over = B.over;
        unsteady = B.unsteady;
      }

  rest_actors : (d : ℕ) (r : Component) → d < components_of x.cast → slice_get v.components (script_place x.cast d) ≡ Some r → IsActorAt x recent q v d r
  rest_actors d r m f = elim (at_set w.components i (script_place x.cast d) b r f) [
    | inl s ↦
        let same : c ≡ d = (W.cast_is).apart c d l m (sym s.0) in
        subst (λ (j : ℕ). IsActorAt x recent q v j r) same (subst (λ (u : Component). IsActorAt x recent q v c u) (sym s.1) rest_actor)
    | inr s ↦ actor_beside d r (λ same. s.0 (ap (λ (j : ℕ). script_place x.cast j) same)) (W.actors d r m s.1)
  ]

  -- ---- the links

  -- a port of the component beside the ends of a link
  fits : (k : ℕ) (h : k < links_of x.cast) (j : ℕ) (y : Port) → slice_get ps j ≡ Some y → Fits (net.by_output k) (ends_of x.cast works p k) y
  fits k h j y f =
      let by : Bool = net.by_output k in
      let P = its_port x recent p w W not_two c a l e A j y f in
      let supplies = calm_supplies x p w P.link P.side y P.end in
      let peer : PortKey = end_of_link x.cast (not P.side) P.link in
      record {
        home = λ t.
            let m : end_of_link x.cast P.side P.link ≡ end_of_link x.cast by k = sym (P.end).key ∙ (key_is y.key (home_at x.cast k) t ∙ home_is x.cast k) in
            let r = same_end x.cast W.cast_is P.side by P.link k P.below h m in
            let s : P.side ≡ net.by_output P.link = r.1 ∙ ap net.by_output (sym r.0) in (
              supplies ∙ (ap (λ (o : Bool). is_supplied_by (not o) (link_to x.cast P.link peer)) s ∙ (home_supplies x.cast P.link peer).0),
              (P.end).direction ∙ ap not r.1,
            );
        else_ = λ t u.
            let away : same_key y.key (end_of_link x.cast (not by) k) ≡ false = either (same_key y.key (end_of_link x.cast (not by) k))
            (λ o.
            let m : end_of_link x.cast P.side P.link ≡ end_of_link x.cast (not by) k = sym (P.end).key ∙ key_is y.key (end_of_link x.cast (not by) k) o in
            let r = same_end x.cast W.cast_is P.side (not by) P.link k P.below h m in
            let s : not P.side ≡ net.by_output P.link = ap not r.1 ∙ (twice by ∙ ap net.by_output (sym r.0)) in
            let no : is_supplier y ≡ false = supplies ∙ (ap (λ (o : Bool). is_supplied_by o (link_to x.cast P.link peer)) s ∙ (home_supplies x.cast P.link peer).1) in
            absurd cc)
            (λ o. o) in
            either_end x.cast by k y.key (ap (same_key y.key) (sym (home_is x.cast k)) ∙ u) away;
      }

  -- the port that supplies the link is of this component where the model says so
  not_home : (k : ℕ) (h : k < links_of x.cast) (j : ℕ) (y : Port) → slice_get ps j ≡ Some y → supplier net k ≢ c → same_key y.key (home_at x.cast k) ≡ false
  not_home k h j y f n =
      let by : Bool = net.by_output k in
      let P = its_port x recent p w W not_two c a l e A j y f in
      either (same_key y.key (home_at x.cast k))
      (λ t.
      let m : end_of_link x.cast P.side P.link ≡ end_of_link x.cast by k = sym (P.end).key ∙ (key_is y.key (home_at x.cast k) t ∙ home_is x.cast k) in
      let r = same_end x.cast W.cast_is P.side by P.link k P.below h m in
      let g : component_at net by k ≡ c = subst (λ (o : Bool). component_at net o k ≡ c) r.1 (subst (λ (o : ℕ). component_at net P.side o ≡ c) r.0 P.of_link) in
      absurd (n (supplier_is net k ∙ g)))
      (λ t. t)

  off_link : (k : ℕ) → k < links_of x.cast → supplier net k ≢ c → link_view (ends_of x.cast works p k) ks ≡ link_view (ends_of x.cast works p k) w.headers
  off_link k h n = reset_off (ends_of x.cast works p k) ps w.headers (W.sound).once (no_works x recent p w W not_two (input_at x.cast k)) (λ j y f t. (fits k h j y f).else_ t (not_home k h j y f n))

  on_link : (k : ℕ) → k < links_of x.cast → supplier net k ≡ c → link_view (ends_of x.cast works p k) ks ≡ reset_link (net.by_output k) (link_view (ends_of x.cast works p k) w.headers)
  on_link k h s =
      let by : Bool = net.by_output k in
      let y : LinkEnds = ends_of x.cast works p k in
      let D = W.wired k h in
      let E = its_end x recent p w W not_two c a l e A k by h (sym (supplier_is net k) ∙ s) in
      let one : settled (seen w.headers) E.port ≡ true = all_pass (settled (seen w.headers)) ps (port_number x.cast by k) E.port all E.there in
      let S : IsEmptied x recent p w W not_two k h = emptied x recent p w W not_two k h by E.port E.end one in
      let away = sym (away_is x.cast k) in
      let H : IsHome y (home_by by (input_at x.cast k) (output_at x.cast k)) w.headers = record {
        undrained = no_works x recent p w W not_two (input_at x.cast k);
        todo = ap (λ (o : PortKey). (seen w.headers).todo o) (sym away) ∙ S.todo;
        done = ap (λ (o : PortKey). (seen w.headers).done o) (sym away) ∙ S.done;
      } in
      let F = fit_each by y ps (fits k h) in
      let apart1 = keys_apart (input_at x.cast k) (output_at x.cast k) (λ t. D.apart (sym t)) in
      let apart2 = keys_apart (output_at x.cast k) (input_at x.cast k) D.apart in
      let key : same_key (E.port).key (home_at x.cast k) ≡ true = ap (λ (o : PortKey). same_key o (home_at x.cast k)) ((E.end).key ∙ sym (home_is x.cast k)) ∙ key_same (home_at x.cast k) in
      let hit = hits_some (home_at x.cast k) ps (port_number x.cast by k) E.port E.there key in
      reset_at by y ps w.headers (W.sound).once apart1 apart2 H F ∙ ap (λ (m : Bool). reset_if by m (link_view y w.headers)) hit

  rest_viewed : (k : ℕ) → k < links_of x.cast → (q.flow).link k ≡ link_view (ends_of x.cast works q k) ks
  rest_viewed k h =
      let y : LinkEnds = ends_of x.cast works p k in
      let same : link_view (ends_of x.cast works q k) ks ≡ link_view y ks =
      view_as y ((q.flow).link k).taken ((q.flow).link k).closed ks (same_field (λ (n : LinkState). n.taken) (λ by n. (reset_closed by n).1) k) (closed_stays k) in
      elim (cases_eq (supplier net k) c) [
        | inl s ↦ link_in k s ∙ (ap (reset_link (net.by_output k)) (W.viewed k h) ∙ (sym (on_link k h s) ∙ sym same))
        | inr n ↦ link_out k n ∙ (W.viewed k h ∙ (sym (off_link k h n) ∙ sym same))
      ]

  -- ---- the world

  ports_stay : (key : PortKey) → port_in v.components key ≡ port_in w.components key
  ports_stay key = got_set (λ (r : Option Component). option_and_then (λ u. port_of u key.port) r) w.components i key.component a b e refl

  works_stay : (key : PortKey) → work_in v.components key ≡ works key
  works_stay key = got_set (λ (r : Option Component). worked_at (option_and_then (λ u. u.work) r) key.port) w.components i key.component a b e refl

  pub rests_at : IsReached net q → Sound v → IsPlayWorld x recent q v
  rests_at R S =
      let cleared = ports_cleared ps w.headers (W.sound).once in
      record {
        cast_is = W.cast_is;
        formats = W.formats;
        reached = R;
        sound = S;
        many = length-set w.components i b ∙ W.many;
        actors = rest_actors;
        half = W.half;
        wired = λ k h. wired_moves x p q (port_in w.components) (port_in v.components) k refl (ports_stay (output_at x.cast k)) (ports_stay (input_at x.cast k)) (W.wired k h);
        ends = λ j port d y f g. elim (at_set w.components i j b d f) [
          | inl s ↦ W.ends i port a y e (subst (λ (n : Component). port_of n port ≡ Some y) s.1 g)
          | inr s ↦ W.ends j port d y s.1 g
        ];
        viewed = λ k h.
            let o = works_stay (output_at x.cast k) in
            let d = works_stay (input_at x.cast k) in
            let y : LinkEnds = ends_of x.cast works q k in
            rest_viewed k h ∙ sym (λ t. link_view (record y { filling = o t; draining = d t }) ks);
        headers = links_cleared x.cast w.headers ks cleared W.headers;
        tunnelled = λ m r s k f h t g.
            let was = cleared m r f in
            let port = (was.2).0 in
            let peer = (was.2).1 in
            let its : is_for (end_of_link x.cast s k) (was.0).state ≡ true = sym (λ u. is_for (end_of_link x.cast s k) (record (r.state) { port = port u; peer = peer u })) ∙ g in
            W.tunnelled m was.0 s k was.1 h t its;
        units = let s = sum_same need_of w.components i a b e refl in let u = W.units in omega arith;
        numbers =
            let s = sum_fewer (links_of x.cast) (left_to_make x.cast q) (left_to_make x.cast p) (λ k h. left_keeps x p q k refl refl (same_field headers_of (λ by y. reset_headers by y) k)) in
            let u = W.numbers in
            omega arith;
      }

  pub rest_happened : happened i a Transition w ≡ v
  rest_happened =
      let g : a.pending ≡ Some (pending_to states.Idle) = ap (λ (y : Component). y.pending) stands in
      let s : a.state ≡ states.Executing = ap (λ (y : Component). y.state) stands in
      let r = rest_arrives w.waits a stands in
      ap (λ (o : Option Pending). transition_happened i a o w) g ∙ rest_moves i a w s r

  abbrev pub acts : Play
  acts = acted net (Act.Happen c) p

  acts_so : acts ≡ q
  acts_so = let f = eq-eqb p.phase 3 three in λ t. record q { flow = if f t then reset_all net c p.flow else p.flow }

  pub rests : CanAct net p (Act.Happen c) → Sound (happened i a Transition w) → IsPlayWorld x recent acts (happened i a Transition w)
  rests C S =
      let R = subst (λ (y : Play). IsReached net y) acts_so (act_reaches net p (Act.Happen c) W.reached C) in
      subst (λ (y : World). IsPlayWorld x recent acts y) (sym rest_happened) (subst (λ (y : Play). IsPlayWorld x recent y v) (sym acts_so) (rests_at R (subst Sound rest_happened S)))
