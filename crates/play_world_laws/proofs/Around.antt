-- A world of a play in which the change of one link has gone on, and of the rest all stayed.
use Rattle.std.proofs.Common.{◌≡◌, ◌≢◌, ◌⊎◌, inl, inr, ℕ, zero, suc, ◌<◌, ◌≤◌, Bool, true, false, not, ◌||◌, nat_le, is_some, List, [], ◌++◌, length, slice_get, sum_by, Option, Some, MatchOption, refl, sym, ◌∙◌, ap, subst, eq-eqb, ne_eqb, le-leb, arith}
use Rattle.std.proofs.lemmas.Bool.{cases_eq}
use Rattle.il_machine.specs.declared.answer.Progress.{Progress}
use Rattle.il_machine.specs.declared.port.Port.{Port}
use Rattle.il_machine.specs.declared.port.PortKey.{PortKey}
use Rattle.il_machine.specs.declared.port.PortState.{PortState}
use Rattle.il_machine.specs.Components.{no_progress}
use Rattle.il_machine.specs.Finishing.{end_note}
use Rattle.il_machine.specs.Headers.{find_header, is_for}
use Rattle.il_machine.specs.Queued.{notes_given}
use Rattle.il_machine.specs.Sound.{Sound}
use Rattle.il_machine.specs.Units.{need_of}
use Rattle.il_machine.specs.World.{Component, HeaderRecord, Stream, Work, World, number_of, port_of, stream_of}
use Rattle.omx_types.specs.declared.command.Note.{Note}
use Rattle.play_model.specs.Progress.{sum_to}
use Rattle.play_model.specs.Acts.{with_change}
use Rattle.play_model.specs.Changes.{Change, IsHalfChanged, port_at, told_on}
use Rattle.play_model.specs.Play.{HasPorts, Play, component_at}
use Rattle.play_model.specs.Reached.{IsReached}
use Rattle.play_world_laws.specs.View.{LinkEnds, link_view}
use Rattle.play_world_laws.specs.Cast.{Cast, IsCast, components_of, links_of, script_place, output_at, input_at}
use Rattle.play_world_laws.specs.Standing.{commands_at, standing}
use Rattle.play_world_laws.specs.Telling.{heard, heard_of, last_note, out_of, progress_by, state_note}
use Rattle.play_world_laws.specs.Wiring.{IsSomeEnd, ends_of, link_to, port_in, work_in}
use Rattle.play_world_laws.specs.Worlds.{ends_untold}
use Rattle.play_world_laws.specs.Changing.{IsPast, is_joined_at, is_set, is_set_at, state_by, told_of_port}
use Rattle.play_world_laws.specs.PlayWorlds.{HasHeard, IsActorAt, IsAnnouncement, IsEndAt, IsPlayWorld, IsWiredAt, IsWorkAt, PlayCast, announced_note, commands_of_end, end_of_link, left_to_make, notes_of_end, port_commands, port_notes, port_number, settings_notes, settings_of_end}
use Rattle.play_world_laws.proofs.QueuedLists.{links_same}

-- ---- ends of links

pub ends_differ : (x : Cast) (C : IsCast x) (s t : Bool) (k l : ℕ) → k < links_of x → l < links_of x → k ≢ l → end_of_link x s k ≢ end_of_link x t l
ends_differ x C true true k l a b n e = n (C.outputs k l a b e)
ends_differ x C true false k l a b n e = C.beside k l a b e
ends_differ x C false true k l a b n e = C.beside l k b a (sym e)
ends_differ x C false false k l a b n e = n (C.inputs k l a b e)

-- an end whose state is the same over the change
pub end_moves : (x : PlayCast) (p q : Play) (k : ℕ) (s : Bool) (at peer : PortKey) (y : Port) → state_by s (q.change k) (link_to x.cast k peer) ≡ state_by s (p.change k) (link_to x.cast k peer)
    → is_set_at s (q.change k).step ≡ is_set_at s (p.change k).step → IsEndAt x p k s at peer y → IsEndAt x q k s at peer y
end_moves x p q k s at peer y e f E =
    let same : is_set (x.cast).layout q s k ≡ is_set (x.cast).layout p s k = ap (λ (b : Bool). not (((x.cast).layout).is_late k) || b) f in
    record {
      key = E.key;
      state = E.state ∙ sym e;
      direction = E.direction;
      count = E.count;
      size = E.size;
      known = E.known ∙ ap not (sym same);
      unit = λ h. E.unit (sym same ∙ h);
      format = λ h k. E.format h (sym same ∙ k);
    }

-- an end whose state is this one
pub end_stated : (x : PlayCast) (p q : Play) (k : ℕ) (s : Bool) (at peer : PortKey) (y : Port) (st : PortState) → st ≡ state_by s (q.change k) (link_to x.cast k peer) → is_set_at s (q.change k).step ≡ is_set_at s (p.change k).step
    → IsEndAt x p k s at peer y → IsEndAt x q k s at peer (record y { state = st })
end_stated x p q k s at peer y st e f E =
    let same : is_set (x.cast).layout q s k ≡ is_set (x.cast).layout p s k = ap (λ (b : Bool). not (((x.cast).layout).is_late k) || b) f in
    record {
      key = E.key;
      state = e;
      direction = E.direction;
      count = E.count;
      size = E.size;
      known = E.known ∙ ap not (sym same);
      unit = λ h. E.unit (sym same ∙ h);
      format = λ h k. E.format h (sym same ∙ k);
    }

pub wired_moves : (x : PlayCast) (p q : Play) (ports to : PortKey → Option Port) (k : ℕ) → q.change k ≡ p.change k → to (output_at x.cast k) ≡ ports (output_at x.cast k) → to (input_at x.cast k) ≡ ports (input_at x.cast k) → IsWiredAt x p ports k → IsWiredAt x q to k
wired_moves x p q ports to k e f g D = record {
  output = D.output;
  input = D.input;
  output_there = f ∙ D.output_there;
  input_there = g ∙ D.input_there;
  output_end = end_moves x p q k true (output_at x.cast k) (input_at x.cast k) D.output (ap (λ (c : Change). state_by true c (link_to x.cast k (input_at x.cast k))) e) (ap (λ (c : Change). is_set_at true c.step) e) D.output_end;
  input_end = end_moves x p q k false (input_at x.cast k) (output_at x.cast k) D.input (ap (λ (c : Change). state_by false c (link_to x.cast k (output_at x.cast k))) e) (ap (λ (c : Change). is_set_at false c.step) e) D.input_end;
  apart = D.apart;
  supplied = D.supplied;
}

pub sum_fewer : (n : ℕ) (f g : ℕ → ℕ) → ((l : ℕ) → l < n → f l ≤ g l) → sum_to n f ≤ sum_to n g
sum_fewer zero f g h = omega arith
sum_fewer (suc n) f g h = let i = sum_fewer n f g (λ l b. h l (omega arith)) in let a = h n (omega arith) in omega arith

-- ---- the change of a link

pub change_here : (l : ℕ) (g : Change → Change) (p : Play) → (with_change l g p).change l ≡ g (p.change l)
change_here l g p = rw (eq-eqb l l refl) refl

pub change_else : (l : ℕ) (g : Change → Change) (p : Play) (k : ℕ) → k ≢ l → (with_change l g p).change k ≡ p.change k
change_else l g p k n = rw (ne_eqb k l n) refl

-- no port goes on when the settings are announced, or told
pub ports_told : (l : ℕ) (p : Play) (s : Bool) (j : ℕ) → port_at s ((with_change l told_on p).change j) ≡ port_at s (p.change j)
ports_told l p s j = elim (cases_eq j l) [
  | inl e ↦ subst (λ (i : ℕ). port_at s ((with_change l told_on p).change i) ≡ port_at s (p.change i)) (sym e) (ap (port_at s) (change_here l told_on p) ∙ same s (p.change l))
  | inr n ↦ ap (port_at s) (change_else l told_on p j n)
]
  where
    same : (s : Bool) (k : Change) → port_at s (told_on k) ≡ port_at s k
    same true k = refl
    same false k = refl

-- Seen from this end nothing happens: what its port is at stays, and at the output the settings were told before.
pub record IsQuiet (s : Bool) (k next : Change) : Type 0 where
  pub port : port_at s next ≡ port_at s k
  pub told : s ≡ true → (2 ≤ k.step) × (2 ≤ next.step)

-- the link whose change was begun last is the same, or this one, of which nothing was sent
abbrev pub IsLatest : ℕ → ℕ → ℕ → Change → Type 0
IsLatest recent later l k = (later ≡ recent) ⊎ ((later ≡ l) × (k.output ≡ 0) × (k.input ≡ 0))

late_told : (n : ℕ) → 2 ≤ n → nat_le 2 n ≡ true
late_told n l = le-leb 2 n l

told_none : (n port : ℕ) → 2 ≤ n → announced_note n port ≡ []
told_none zero port l = absurd (omega arith)
told_none (suc zero) port l = absurd (omega arith)
told_none (suc (suc n)) port l = refl

pub none_told : (s : Bool) (k : Change) (port : ℕ) → k.output ≡ 0 → k.input ≡ 0 → is_some (told_of_port (port_at s k) port) ≡ true → ⊥
none_told true k port e f h = let z : false ≡ true = sym (ap (λ (n : ℕ). is_some (told_of_port n port)) e) ∙ h in cc
none_told false k port e f h = let z : false ≡ true = sym (ap (λ (n : ℕ). is_some (told_of_port n port)) f) ∙ h in cc

module _ (x : PlayCast) (recent later : ℕ) (p : Play) (l : ℕ) (g : Change → Change) (latest : IsLatest recent later l (p.change l)) where
  abbrev q : Play
  q = with_change l g p

  abbrev k : Change
  k = p.change l

  -- ---- a component beside it

  module _ (c : ℕ) (quiet : (s : Bool) → component_at (x.cast).layout s l ≡ c → IsQuiet s k (g k)) where
    port_same : (s : Bool) (j : ℕ) → component_at (x.cast).layout s j ≡ c → port_at s (q.change j) ≡ port_at s (p.change j)
    port_same s j a = elim (cases_eq j l) [
      | inl e ↦
          let b : component_at (x.cast).layout s l ≡ c = subst (λ (i : ℕ). component_at (x.cast).layout s i ≡ c) e a in
          subst (λ (i : ℕ). port_at s (q.change i) ≡ port_at s (p.change i)) (sym e) (ap (port_at s) (change_here l g p) ∙ (quiet s b).port)
      | inr n ↦ ap (port_at s) (change_else l g p j n)
    ]

    -- at an output the settings are told of as before
    output_same : {A : Type 0} (f : ℕ → A) → ((n m : ℕ) → 2 ≤ n → 2 ≤ m → f n ≡ f m) → (j : ℕ) → component_at (x.cast).layout true j ≡ c → f (q.change j).step ≡ f (p.change j).step
    output_same f h j a = elim (cases_eq j l) [
      | inl e ↦
          let b : component_at (x.cast).layout true l ≡ c = subst (λ (i : ℕ). component_at (x.cast).layout true i ≡ c) e a in
          let two = (quiet true b).told refl in
          subst (λ (i : ℕ). f (q.change i).step ≡ f (p.change i).step) (sym e) (ap (λ (z : Change). f z.step) (change_here l g p) ∙ h (g k).step k.step two.1 two.0)
      | inr n ↦ ap (λ (z : Change). f z.step) (change_else l g p j n)
    ]

    settings_end : (s : Bool) (j : ℕ) → component_at (x.cast).layout s j ≡ c → settings_of_end x.cast q s j ≡ settings_of_end x.cast p s j
    settings_end true j a = output_same (λ n. announced_note n ((x.cast).output_port j)) (λ n m a b. told_none n _ a ∙ sym (told_none m _ b)) j a
    settings_end false j a = refl

    pub commands_same : port_commands x.cast q c ≡ port_commands x.cast p c
    commands_same = links_same (x.cast).layout (commands_of_end x.cast q) (commands_of_end x.cast p) c (links_of x.cast) (λ s j b t a. let e = port_same s j a in rw e refl)

    pub notes_same : port_notes x.cast q c ≡ port_notes x.cast p c
    notes_same = links_same (x.cast).layout (notes_of_end x.cast q) (notes_of_end x.cast p) c (links_of x.cast) (λ s j b t a. let e = port_same s j a in rw e refl)

    pub settings_same : settings_notes x.cast q c ≡ settings_notes x.cast p c
    settings_same = links_same (x.cast).layout (settings_of_end x.cast q) (settings_of_end x.cast p) c (links_of x.cast) (λ s j b t a. settings_end s j a)

    pub heard_same : (h : Progress) → HasHeard x.cast recent p c h → HasHeard x.cast later q c h
    heard_same h H = record {
      state = H.state;
      eos = H.eos;
      error = H.error;
      settings = λ j O t. H.settings j O t ∙ sym (output_same (nat_le 2) (λ n m a b. late_told n a ∙ sym (late_told m b)) j O.given_by);
      port = λ s b a t u.
          let e = port_same s later a in
          let v : is_some (told_of_port (port_at s (p.change later)) (port_number x.cast s later)) ≡ true = sym (ap (λ (n : ℕ). is_some (told_of_port n (port_number x.cast s later))) e) ∙ u in
          elim latest [
            | inl n ↦
                let was = H.port s (subst (λ (i : ℕ). i < links_of x.cast) n b) (subst (λ (i : ℕ). component_at (x.cast).layout s i ≡ c) n a) (subst (λ (i : ℕ). ((x.cast).layout).is_late i ≡ true) n t)
                (subst (λ (i : ℕ). is_some (told_of_port (port_at s (p.change i)) (port_number x.cast s i)) ≡ true) n v) in
                let now : h.port ≡ told_of_port (port_at s (p.change later)) (port_number x.cast s later) = was ∙ ap (λ (i : ℕ). told_of_port (port_at s (p.change i)) (port_number x.cast s i)) (sym n) in
                now ∙ ap (λ (n : ℕ). told_of_port n (port_number x.cast s later)) (sym e)
            | inr z ↦
                let y : is_some (told_of_port (port_at s k) (port_number x.cast s l)) ≡ true = subst (λ (i : ℕ). is_some (told_of_port (port_at s (p.change i)) (port_number x.cast s i)) ≡ true) z.0 v in
                absurd (none_told s k (port_number x.cast s l) z.1 z.2 y)
          ];
      past = λ s j b a t. subst (λ (z : ℕ). IsPast z (port_number x.cast s j) h.port) (sym (port_same s j a)) (H.past s j b a t);
      nothing = H.nothing;
    }

    pub has_ports : HasPorts (x.cast).layout p c → HasPorts (x.cast).layout q c
    has_ports P = record {
      outputs = λ j O t. let e = port_same true j O.given_by in let a = P.outputs j O t in omega arith;
      inputs = λ j I t. let e = port_same false j I.taken_by in let a = P.inputs j I t in omega arith;
    }

    announcement : (work : Work) → IsAnnouncement x.cast p c work → IsAnnouncement x.cast q c work
    announcement work A = record {
      link = A.link;
      output = A.output;
      late = A.late;
      unannounced = elim (cases_eq A.link l) [
        | inl e ↦
            let b : component_at (x.cast).layout true l ≡ c = subst (λ (i : ℕ). component_at (x.cast).layout true i ≡ c) e (A.output).given_by in
            let two = ((quiet true b).told refl).0 in
            let z : (p.change l).step ≡ 0 = subst (λ (i : ℕ). (p.change i).step ≡ 0) e A.unannounced in
            absurd (omega arith)
        | inr n ↦ ap (λ (z : Change). z.step) (change_else l g p A.link n) ∙ A.unannounced
      ];
      none = A.none;
      announces = A.announces;
    }

    work_same : (a : Component) (work : Work) → IsWorkAt x.cast p c a work → IsWorkAt x.cast q c a work
    work_same a work K = record {
      phase = K.phase;
      stage = K.stage;
      going = K.going;
      gain = K.gain;
      weights = K.weights;
      which = elim K.which [ inl h ↦ inl (h.0, has_ports h.1, h.2) | inr A ↦ inr (announcement work A) ];
    }

    pub actor_beside : (w v : World) (a : Component) → notes_given (number_of a) v ≡ notes_given (number_of a) w → stream_of (number_of a) v ≡ stream_of (number_of a) w → IsActorAt x recent p w c a → IsActorAt x later q v c a
    actor_beside w v a n s A =
        let cs = commands_same in
        let ns = notes_same in
        let ss = settings_same in
        record {
          number = A.number;
          stands = A.stands ∙ (λ i. record (standing p.phase (p.stage c) a) { commands = commands_at p.phase (p.stage c) ++ sym cs i });
          set_for = A.set_for;
          roomy = A.roomy;
          source = A.source;
          sink = A.sink;
          late = A.late;
          late_format = A.late_format;
          file = A.file;
          notes = ap (λ (y : List Note). out_of a.client_out y ++ a.notes) n ∙ (A.notes ∙ (λ i. state_note p.phase (p.stage c) ++ (sym ss i ++ (sym ns i ++ end_note (ends_untold x.cast p c)))));
          heard_so = subst (λ (h : Progress). HasHeard x.cast later q c h) (sym (ap (λ (y : List Note). progress_by (heard_of a.client_out y) no_progress) n)) (heard_same (heard w a) A.heard_so);
          out = λ e. let o = A.out e in (o.0, ap last_note n ∙ o.1);
          part = record { whole = (A.part).whole; ended = (A.part).ended; inputs = (A.part).inputs };
          done = subst (λ (o : Option Stream). MatchOption o ⊥ (λ z. z.frames ≡ (p.flow).done c)) (sym s) A.done;
          work = λ work e. work_same a work (A.work work e);
          running = A.running;
          over = A.over;
          unsteady = λ s j b d t n. A.unsteady s j b d t (let e = port_same s j d in omega arith);
        }

  -- ---- the world

  pub record IsAround (w v : World) : Type 0 where
    pub below : l < links_of x.cast
    pub headers : v.headers ≡ w.headers
    pub made : v.made ≡ w.made
    pub units : v.units ≡ w.units
    pub many : length v.components ≡ length w.components
    pub needs : sum_by need_of v.components ≡ sum_by need_of w.components
    pub works : (key : PortKey) → work_in v.components key ≡ work_in w.components key
    pub beside : (s : Bool) (j : ℕ) → j < links_of x.cast → j ≢ l → port_in v.components (end_of_link x.cast s j) ≡ port_in w.components (end_of_link x.cast s j)
    pub its : IsWiredAt x q (port_in v.components) l
    pub ends : (i port : ℕ) (a : Component) (y : Port) → slice_get v.components i ≡ Some a → port_of a port ≡ Some y → IsSomeEnd x.cast y.key
    pub actors : (c : ℕ) (a : Component) → c < components_of x.cast → slice_get v.components (script_place x.cast c) ≡ Some a → IsActorAt x later q v c a
    pub fewer : left_to_make x.cast q l ≤ left_to_make x.cast p l
    pub joined : (n : ℕ) (r : HeaderRecord) (s : Bool) → find_header n w.headers ≡ Some r → is_for (end_of_link x.cast s l) r.state ≡ true → is_joined_at k.step ≡ true → is_joined_at (g k).step ≡ true
    pub half : (j : ℕ) → j < links_of x.cast → ((x.cast).layout).is_late j ≡ true → IsHalfChanged (q.change j) → j ≡ later

  pub around : (w v : World) → IsPlayWorld x recent p w → IsReached (x.cast).layout q → Sound v → IsAround w v → IsPlayWorld x later q v
  around w v W R S A = record {
    cast_is = W.cast_is;
    formats = W.formats;
    reached = R;
    sound = S;
    many = A.many ∙ W.many;
    actors = A.actors;
    half = A.half;
    wired = λ j b. elim (cases_eq j l) [
      | inl e ↦ subst (λ (i : ℕ). IsWiredAt x q (port_in v.components) i) (sym e) A.its
      | inr n ↦ wired_moves x p q (port_in w.components) (port_in v.components) j (change_else l g p j n) (A.beside true j b n) (A.beside false j b n) (W.wired j b)
    ];
    ends = A.ends;
    viewed = λ j b.
        let was = W.viewed j b in
        let o = A.works (output_at x.cast j) in
        let i = A.works (input_at x.cast j) in
        let hs = A.headers in
        let y : LinkEnds = ends_of x.cast (work_in w.components) p j in
        was ∙ sym (λ t. link_view (record y { filling = o t; draining = i t }) (hs t));
    headers = λ n r f. W.headers n r (subst (λ (hs : List HeaderRecord). find_header n hs ≡ Some r) A.headers f);
    tunnelled = λ n r s j f b t h.
        let there : find_header n w.headers ≡ Some r = subst (λ (hs : List HeaderRecord). find_header n hs ≡ Some r) A.headers f in
        let was = W.tunnelled n r s j there b t h in
        elim (cases_eq j l) [
          | inl e ↦
              let its : is_for (end_of_link x.cast s l) r.state ≡ true = subst (λ (i : ℕ). is_for (end_of_link x.cast s i) r.state ≡ true) e h in
              let now : is_joined_at (q.change l).step ≡ true = ap (λ (z : Change). is_joined_at z.step) (change_here l g p) ∙ A.joined n r s there its (subst (λ (i : ℕ). is_joined_at (p.change i).step ≡ true) e was) in
              subst (λ (i : ℕ). is_joined_at (q.change i).step ≡ true) (sym e) now
          | inr n ↦ ap (λ (z : Change). is_joined_at z.step) (change_else l g p j n) ∙ was
        ];
    units = let a = A.needs in let b = A.units in let u = W.units in omega arith;
    numbers =
        let m = A.made in
        let s = sum_fewer (links_of x.cast) (left_to_make x.cast q) (left_to_make x.cast p) (λ j b. elim (cases_eq j l) [
          | inl e ↦ subst (λ (i : ℕ). left_to_make x.cast q i ≤ left_to_make x.cast p i) (sym e) A.fewer
          | inr n ↦ let z : left_to_make x.cast q j ≡ left_to_make x.cast p j = rw (change_else l g p j n) refl in omega arith
        ]) in
        let u = W.numbers in
        omega arith;
  }
