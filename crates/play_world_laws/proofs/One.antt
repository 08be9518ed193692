-- The change of a link has gone on at one of its ends: the component there gave way to another, of which one port stands otherwise.
use Rattle.std.proofs.Common.{◌≡◌, ◌≢◌, inl, inr, ℕ, ◌<◌, ◌≤◌, Bool, true, false, not, List, [], ◌∷◌, ◌++◌, find, length, set, slice_get, sum_by, Option, Some, option_and_then, MatchOption, refl, sym, ◌∙◌, ap, subst, arith}
use Rattle.std.proofs.lemmas.Bool.{cases_eq}
use Rattle.std.proofs.lemmas.List.{length-set}
use Rattle.omx_types.specs.declared.command.Note.{Note}
use Rattle.il_machine.specs.declared.port.Port.{Port}
use Rattle.il_machine.specs.declared.port.PortKey.{PortKey}
use Rattle.il_machine.specs.Finishing.{end_note}
use Rattle.il_machine.specs.Kinds.{is_late, is_sink, is_source}
use Rattle.il_machine.specs.Parameters.{overflows}
use Rattle.il_machine.specs.Parts.{file_format, frames_of}
use Rattle.il_machine.specs.Queued.{notes_given}
use Rattle.il_machine.specs.Sound.{Sound}
use Rattle.il_machine.specs.Tunnels.{agreed}
use Rattle.il_machine.specs.Units.{need_of, units_of}
use Rattle.il_machine.specs.World.{Component, PartState, Stream, Work, World, is_stream_of, number_of, port_of, stream_of}
use Rattle.machine_laws.proofs.Every.{at_set, set_else, set_there}
use Rattle.play_model.specs.Acts.{with_change}
use Rattle.play_model.specs.Changes.{Change, IsHalfChanged, port_at}
use Rattle.play_model.specs.Play.{Play, component_at}
use Rattle.play_model.specs.Reached.{IsReached}
use Rattle.play_world_laws.specs.View.{worked_at}
use Rattle.play_world_laws.specs.Cast.{components_of, links_of, script_place, output_at, input_at}
use Rattle.play_world_laws.specs.Standing.{commands_at, standing}
use Rattle.play_world_laws.specs.Telling.{heard, last_note, state_note, unheard}
use Rattle.play_world_laws.specs.Wiring.{IsSomeEnd, link_to, port_in, work_in}
use Rattle.play_world_laws.specs.Worlds.{IsPart, ends_untold}
use Rattle.play_world_laws.proofs.Lists.{got_set, sum_same}
use Rattle.play_world_laws.specs.Changing.{is_joined_at, is_set_at, state_by}
use Rattle.play_world_laws.specs.PlayWorlds.{HasHeard, IsActorAt, IsEndAt, IsPlayWorld, IsSetFor, IsWiredAt, IsWorkAt, PlayCast, end_of_link, left_to_make, port_commands, port_notes, port_number, settings_notes}
use Rattle.play_world_laws.proofs.Around.{IsLatest, IsQuiet, actor_beside, around, change_here, end_moves, ends_differ}

-- ---- the component

module _ (x : PlayCast) (recent later : ℕ) (p : Play) (l : ℕ) (g : Change → Change) where
  abbrev q : Play
  q = with_change l g p

  abbrev k : Change
  k = p.change l

  -- what it has of the change, and what it is besides
  pub record IsTurned (w v : World) (c : ℕ) (a b : Component) : Type 0 where
    pub handle : b.handle ≡ a.handle
    pub kind : b.settings.kind ≡ a.settings.kind
    pub set_for : IsSetFor x c b.settings
    pub rises : (s : Bool) (j : ℕ) → component_at (x.cast).layout s j ≡ c → port_at s (p.change j) ≤ port_at s (q.change j)
    pub file : b.file ≡ a.file
    pub part : b.part ≡ a.part
    pub stands : b ≡ record (standing p.phase (p.stage c) b) { commands = commands_at p.phase (p.stage c) ++ port_commands x.cast q c }
    pub notes : unheard v b ≡ state_note p.phase (p.stage c) ++ (settings_notes x.cast q c ++ (port_notes x.cast q c ++ end_note (ends_untold x.cast p c)))
    pub heard_so : HasHeard x.cast later q c (heard v b)
    pub out : b.client_out ≡ true → (note : Note) × (last_note (notes_given (number_of b) v) ≡ note ∷ [])
    pub work : (work : Work) → b.work ≡ Some work → IsWorkAt x.cast q c b work

  pub actor_turned : (w v : World) (c : ℕ) (a b : Component) → v.streams ≡ w.streams → IsTurned w v c a b → IsActorAt x recent p w c a → IsActorAt x later q v c b
  actor_turned w v c a b s T A =
      let n : number_of b ≡ number_of a = ap (λ h. h.generation) T.handle in
      let kind = T.kind in
      record {
        number = n ∙ A.number;
        stands = T.stands;
        set_for = T.set_for;
        roomy = λ j I t. ap (λ f. overflows f (x.format j)) T.file ∙ A.roomy j I t;
        source = ap is_source kind ∙ A.source;
        sink = ap is_sink kind ∙ A.sink;
        late = λ j O. ap is_late kind ∙ A.late j O;
        late_format = λ j O t. ap file_format T.file ∙ A.late_format j O t;
        file = λ t. ap frames_of T.file ∙ A.file (sym (ap is_source kind) ∙ t);
        notes = T.notes;
        heard_so = T.heard_so;
        out = T.out;
        part = subst (λ (z : PartState). IsPart x.cast q c z) (sym T.part) (record { whole = (A.part).whole; ended = (A.part).ended; inputs = (A.part).inputs });
        done = subst (λ (m : ℕ). MatchOption (stream_of m v) ⊥ (λ z. z.frames ≡ (p.flow).done c)) (sym n)
            (subst (λ (o : List Stream). MatchOption (find (is_stream_of (number_of a)) o) ⊥ (λ z. z.frames ≡ (p.flow).done c)) (sym s) A.done);
        work = T.work;
        running = A.running;
        over = A.over;
        unsteady = λ s j b d t n. A.unsteady s j b d t (let r = T.rises s j d in omega arith);
      }

  -- ---- the world

  -- one end of the link, the component there, and its port before and after
  pub record IsTurnedAt (w v : World) (o : Bool) (c : ℕ) (a b : Component) (y z : Port) : Type 0 where
    pub below : l < links_of x.cast
    pub late : ((x.cast).layout).is_late l ≡ true
    pub inside : c < components_of x.cast
    pub at : component_at (x.cast).layout o l ≡ c
    pub there : slice_get w.components (script_place x.cast c) ≡ Some a
    pub components : v.components ≡ set w.components (script_place x.cast c) b
    pub headers : v.headers ≡ w.headers
    pub made : v.made ≡ w.made
    pub units : v.units ≡ w.units
    pub streams : v.streams ≡ w.streams
    pub given : (number : ℕ) → number ≢ script_place x.cast c → notes_given number v ≡ notes_given number w
    pub kind : b.settings.kind ≡ a.settings.kind
    pub works : (port : ℕ) → worked_at b.work port ≡ worked_at a.work port
    pub others : (i : ℕ) → i ≢ port_number x.cast o l → port_of b i ≡ port_of a i
    pub port : port_of b (port_number x.cast o l) ≡ Some z
    pub before : port_of a (port_number x.cast o l) ≡ Some y
    pub end : IsEndAt x q l o (end_of_link x.cast o l) (end_of_link x.cast (not o) l) z
    pub preference : z.setting.supplier ≡ y.setting.supplier
    pub quiet : IsQuiet (not o) k (g k)
    pub state : state_by (not o) (g k) (link_to x.cast l (end_of_link x.cast o l)) ≡ state_by (not o) k (link_to x.cast l (end_of_link x.cast o l))
    pub set : is_set_at (not o) (g k).step ≡ is_set_at (not o) k.step
    pub fewer : left_to_make x.cast q l ≤ left_to_make x.cast p l
    pub joined : is_joined_at k.step ≡ true → is_joined_at (g k).step ≡ true
    pub half : (j : ℕ) → j < links_of x.cast → ((x.cast).layout).is_late j ≡ true → IsHalfChanged (q.change j) → j ≡ later

  end_place : (s : Bool) (j : ℕ) → (end_of_link x.cast s j).component ≡ script_place x.cast (component_at (x.cast).layout s j)
  end_place true j = refl
  end_place false j = refl

  end_port : (s : Bool) (j : ℕ) → (end_of_link x.cast s j).port ≡ port_number x.cast s j
  end_port true j = refl
  end_port false j = refl

  port_there : (cs : List Component) (key : PortKey) (i n : ℕ) (d : Component) → key.component ≡ i → key.port ≡ n → slice_get cs i ≡ Some d → port_in cs key ≡ port_of d n
  port_there cs key i n d e f h = rw (e, f, h) refl

  module _ (w v : World) (o : Bool) (c : ℕ) (a b : Component) (y z : Port) (W : IsPlayWorld x recent p w) (T : IsTurnedAt w v o c a b y z) (latest : IsLatest recent later l k) where
    abbrev i : ℕ
    i = script_place x.cast c

    now : slice_get v.components i ≡ Some b
    now = ap (λ (cs : List Component). slice_get cs i) T.components ∙ set_there w.components i a b T.there

    else_ : (j : ℕ) → j ≢ i → slice_get v.components j ≡ slice_get w.components j
    else_ j n = ap (λ (cs : List Component). slice_get cs j) T.components ∙ set_else w.components i j b n

    -- a port that isn't the one that changed
    ports_else : (key : PortKey) → key ≢ end_of_link x.cast o l → port_in v.components key ≡ port_in w.components key
    ports_else key n = elim (cases_eq key.component i) [
      | inl e ↦
          let d : key.port ≢ port_number x.cast o l =
          λ f.
          let u : key.component ≡ (end_of_link x.cast o l).component = e ∙ sym (end_place o l ∙ ap (λ (m : ℕ). script_place x.cast m) T.at) in
          let m : key.port ≡ (end_of_link x.cast o l).port = f ∙ sym (end_port o l) in
          n (λ t. record { component = u t; port = m t }) in
          port_there v.components key i key.port b e refl now ∙ (T.others key.port d ∙ sym (port_there w.components key i key.port a e refl T.there))
      | inr d ↦ ap (λ (r : Option Component). option_and_then (λ u. port_of u key.port) r) (else_ key.component d)
    ]

    port_now : port_in v.components (end_of_link x.cast o l) ≡ Some z
    port_now = port_there v.components (end_of_link x.cast o l) i (port_number x.cast o l) b (end_place o l ∙ ap (λ (m : ℕ). script_place x.cast m) T.at) (end_port o l) now ∙ T.port

    port_then : port_in w.components (end_of_link x.cast o l) ≡ Some y
    port_then = port_there w.components (end_of_link x.cast o l) i (port_number x.cast o l) a (end_place o l ∙ ap (λ (m : ℕ). script_place x.cast m) T.at) (end_port o l) T.there ∙ T.before

    moved_state : (s : Bool) → state_by s (g k) (link_to x.cast l (end_of_link x.cast (not s) l)) ≡ state_by s k (link_to x.cast l (end_of_link x.cast (not s) l))
        → state_by s (q.change l) (link_to x.cast l (end_of_link x.cast (not s) l)) ≡ state_by s (p.change l) (link_to x.cast l (end_of_link x.cast (not s) l))
    moved_state s e = ap (λ (t : Change). state_by s t (link_to x.cast l (end_of_link x.cast (not s) l))) (change_here l g p) ∙ e

    moved_set : (s : Bool) → is_set_at s (g k).step ≡ is_set_at s k.step → is_set_at s (q.change l).step ≡ is_set_at s (p.change l).step
    moved_set s e = ap (λ (t : Change). is_set_at s t.step) (change_here l g p) ∙ e

    own_wired : (s : Bool) → o ≡ s → IsWiredAt x q (port_in v.components) l
    own_wired true e =
        let D = W.wired l T.below in
        let there : port_in v.components (output_at x.cast l) ≡ Some z = subst (λ (t : Bool). port_in v.components (end_of_link x.cast t l) ≡ Some z) e port_now in
        let then : port_in w.components (output_at x.cast l) ≡ Some y = subst (λ (t : Bool). port_in w.components (end_of_link x.cast t l) ≡ Some y) e port_then in
        let other = ports_else (input_at x.cast l) (subst (λ (t : Bool). input_at x.cast l ≢ end_of_link x.cast t l) (sym e) (λ f. (W.cast_is).beside l l T.below T.below (sym f))) in
        let same : D.output ≡ y = let f : Some D.output ≡ Some y = sym D.output_there ∙ then in cc in
        let preference = T.preference in
        record {
          output = z;
          input = D.input;
          output_there = there;
          input_there = other ∙ D.input_there;
          output_end = subst (λ (t : Bool). IsEndAt x q l t (end_of_link x.cast t l) (end_of_link x.cast (not t) l) z) e T.end;
          input_end = end_moves x p q l false (input_at x.cast l) (output_at x.cast l) D.input
              (moved_state false (subst (λ (t : Bool). state_by (not t) (g k) (link_to x.cast l (end_of_link x.cast t l)) ≡ state_by (not t) k (link_to x.cast l (end_of_link x.cast t l))) e T.state))
              (moved_set false (subst (λ (t : Bool). is_set_at (not t) (g k).step ≡ is_set_at (not t) k.step) e T.set)) D.input_end;
          apart = D.apart;
          supplied = λ t. (λ u. agreed (preference u) (D.input).setting.supplier) ∙ (ap (λ (r : Port). agreed r.setting.supplier (D.input).setting.supplier) (sym same) ∙ D.supplied t);
        }
    own_wired false e =
        let D = W.wired l T.below in
        let there : port_in v.components (input_at x.cast l) ≡ Some z = subst (λ (t : Bool). port_in v.components (end_of_link x.cast t l) ≡ Some z) e port_now in
        let then : port_in w.components (input_at x.cast l) ≡ Some y = subst (λ (t : Bool). port_in w.components (end_of_link x.cast t l) ≡ Some y) e port_then in
        let other = ports_else (output_at x.cast l) (subst (λ (t : Bool). output_at x.cast l ≢ end_of_link x.cast t l) (sym e) (λ f. (W.cast_is).beside l l T.below T.below f)) in
        let same : D.input ≡ y = let f : Some D.input ≡ Some y = sym D.input_there ∙ then in cc in
        let preference = T.preference in
        record {
          output = D.output;
          input = z;
          output_there = other ∙ D.output_there;
          input_there = there;
          output_end = end_moves x p q l true (output_at x.cast l) (input_at x.cast l) D.output
              (moved_state true (subst (λ (t : Bool). state_by (not t) (g k) (link_to x.cast l (end_of_link x.cast t l)) ≡ state_by (not t) k (link_to x.cast l (end_of_link x.cast t l))) e T.state))
              (moved_set true (subst (λ (t : Bool). is_set_at (not t) (g k).step ≡ is_set_at (not t) k.step) e T.set)) D.output_end;
          input_end = subst (λ (t : Bool). IsEndAt x q l t (end_of_link x.cast t l) (end_of_link x.cast (not t) l) z) e T.end;
          apart = D.apart;
          supplied = λ t. (λ u. agreed (D.output).setting.supplier (preference u)) ∙ (ap (λ (r : Port). agreed (D.output).setting.supplier r.setting.supplier) (sym same) ∙ D.supplied t);
        }

    -- the components beside it
    quiet_else : (d : ℕ) → d ≢ c → (s : Bool) → component_at (x.cast).layout s l ≡ d → IsQuiet s k (g k)
    quiet_else d n s f = both o s refl f
      where
        both : (t s : Bool) → o ≡ t → component_at (x.cast).layout s l ≡ d → IsQuiet s k (g k)
        both true true e f = absurd (n (sym f ∙ subst (λ (t : Bool). component_at (x.cast).layout t l ≡ c) e T.at))
        both false false e f = absurd (n (sym f ∙ subst (λ (t : Bool). component_at (x.cast).layout t l ≡ c) e T.at))
        both true false e f = subst (λ (t : Bool). IsQuiet (not t) k (g k)) e T.quiet
        both false true e f = subst (λ (t : Bool). IsQuiet (not t) k (g k)) e T.quiet

    turned_actors : IsActorAt x later q v c b → (d : ℕ) (r : Component) → d < components_of x.cast → slice_get v.components (script_place x.cast d) ≡ Some r → IsActorAt x later q v d r
    turned_actors B d r m e = elim (at_set w.components i (script_place x.cast d) b r (subst (λ (cs : List Component). slice_get cs (script_place x.cast d) ≡ Some r) T.components e)) [
      | inl s ↦
          let same : c ≡ d = (W.cast_is).apart c d T.inside m (sym s.0) in
          subst (λ (j : ℕ). IsActorAt x later q v j r) same (subst (λ (u : Component). IsActorAt x later q v c u) (sym s.1) B)
      | inr s ↦
          let A = W.actors d r m s.1 in
          let n : d ≢ c = λ f. s.0 (ap (λ (j : ℕ). script_place x.cast j) f) in
          actor_beside x recent later p l g latest d (quiet_else d n) w v r (T.given (number_of r) (λ f. s.0 (sym A.number ∙ f))) (ap (find (is_stream_of (number_of r))) T.streams) A
    ]

    turned_ends : (j port : ℕ) (d : Component) (r : Port) → slice_get v.components j ≡ Some d → port_of d port ≡ Some r → IsSomeEnd x.cast r.key
    turned_ends j port d r e f = elim (at_set w.components i j b d (subst (λ (cs : List Component). slice_get cs j ≡ Some d) T.components e)) [
      | inl s ↦
          let h : port_of b port ≡ Some r = subst (λ (u : Component). port_of u port ≡ Some r) s.1 f in
          elim (cases_eq port (port_number x.cast o l)) [
            | inl u ↦
                let t : Some z ≡ Some r = sym T.port ∙ (ap (port_of b) (sym u) ∙ h) in
                let is : z ≡ r = cc in
                let key : r.key ≡ end_of_link x.cast o l = ap (λ (m : Port). m.key) (sym is) ∙ (T.end).key in
                end_is o r.key key
            | inr n ↦ W.ends i port a r T.there (sym (T.others port n) ∙ h)
          ]
      | inr s ↦ W.ends j port d r s.1 f
    ]
      where
        end_is : (s : Bool) (key : PortKey) → key ≡ end_of_link x.cast s l → IsSomeEnd x.cast key
        end_is true key e = record { link = l; below = T.below; end = inl e }
        end_is false key e = record { link = l; below = T.below; end = inr e }

    pub turned : IsReached (x.cast).layout q → Sound v → IsActorAt x later q v c b → IsPlayWorld x later q v
    turned R S B = around x recent later p l g latest w v W R S (record {
      below = T.below;
      headers = T.headers;
      made = T.made;
      units = T.units;
      many = ap length T.components ∙ length-set w.components i b;
      needs = ap (sum_by need_of) T.components ∙ sum_same need_of w.components i a b T.there (ap units_of T.kind);
      works = λ key. ap (λ (cs : List Component). work_in cs key) T.components
          ∙ got_set (λ (r : Option Component). worked_at (option_and_then (λ u. u.work) r) key.port) w.components i key.component a b T.there (T.works key.port);
      beside = λ s j m n. ports_else (end_of_link x.cast s j) (ends_differ x.cast W.cast_is s o j l m T.below n);
      its = own_wired o refl;
      ends = turned_ends;
      actors = turned_actors B;
      fewer = T.fewer;
      joined = λ n r s f t h. T.joined h;
      half = T.half;
    })
