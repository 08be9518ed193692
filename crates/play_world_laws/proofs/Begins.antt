-- The conductor begins the next StateSet in a play, which changes nothing of the world.
use Rattle.std.proofs.lemmas.Bool.{cases_eq, leb-false, lt-leb}
use Rattle.std.proofs.Common.{◌≡◌, inl, inr, ℕ, zero, suc, ◌+◌, ◌-◌, ◌<◌, ◌≤◌, Bool, true, false, nat_le, if◌then◌else◌, List, ◌++◌, sym, ◌∙◌, ap, arith}
use Rattle.omx_types.specs.declared.command.Command.{Command}
use Rattle.il_machine.specs.declared.answer.Progress.{Progress}
use Rattle.il_machine.specs.declared.port.Port.{Port}
use Rattle.il_machine.specs.declared.port.PortKey.{PortKey}
use Rattle.il_machine.specs.Finishing.{end_note}
use Rattle.il_machine.specs.World.{Component, PartState, Work, World}
use Rattle.machine_laws.proofs.Finding.{either}
use Rattle.play_model.specs.Progress.{sum_to}
use Rattle.play_model.specs.Play.{Play, made}
use Rattle.play_model.specs.Acts.{Act, CanBegin, acted}
use Rattle.play_model.proofs.Handing.{act_reaches}
use Rattle.play_world_laws.specs.Cast.{Cast, components_of, links_of}
use Rattle.play_world_laws.specs.Standing.{commands_at, standing}
use Rattle.play_world_laws.specs.Telling.{last_told, state_note}
use Rattle.play_world_laws.specs.Worlds.{IsBeforeRest, IsPart, ends_untold}
use Rattle.play_world_laws.specs.Wiring.{port_in}
use Rattle.play_world_laws.proofs.Stages.{begin_stands, begin_told}
use Rattle.play_world_laws.specs.PlayWorlds.{HasHeard, IsActorAt, IsEndAt, IsPlayWorld, IsWiredAt, IsWorkAt, PlayCast, left_to_make, port_commands, port_notes, settings_notes}

abbrev begun : Play → Play
begun p = record p { phase = p.phase + 1; stage = λ c. 0 }

sum_fewer : (n : ℕ) (f g : ℕ → ℕ) → ((l : ℕ) → f l ≤ g l) → sum_to n f ≤ sum_to n g
sum_fewer zero f g h = omega arith
sum_fewer (suc n) f g h = let i = sum_fewer n f g h in let a = h n in omega arith

made_later : (phase low k : ℕ) → (if nat_le (phase + 1) low then k else 0) ≤ (if nat_le phase low then k else 0)
made_later phase low k = either (nat_le phase low)
    (λ t. either (nat_le (phase + 1) low) (λ u. rw (t, u) (omega arith)) (λ u. rw (t, u) (omega arith)))
    (λ f.
    let b = leb-false phase low f in
    let e : nat_le (phase + 1) low ≡ false = lt-leb (phase + 1) low (omega arith) in
    rw (e, f) (omega arith))

left_later : (x : Cast) (p : Play) (l : ℕ) → left_to_make x (begun p) l ≤ left_to_make x p l
left_later x p l =
    let count : ℕ = ((x.layout).network).count l in
    let first = made_later p.phase 1 (count - made p l) in
    let later = made_later p.phase 3 (count - made p l) in
    either ((x.layout).is_late l)
    (λ t. either (nat_le (p.change l).step 4) (λ u. rw (t, u) (omega arith)) (λ u. rw (t, u) later))
    (λ f. rw f first)

module _ (x : PlayCast) (recent : ℕ) (p : Play) (w : World) (W : IsPlayWorld x recent p w) (C : CanBegin (x.cast).layout p) where
  rests : (c : ℕ) → IsBeforeRest (begun p) c → IsBeforeRest p c
  rests c B = let b = B.1 in ((λ e. absurd (omega arith)), omega arith)

  begun_part : (c : ℕ) (s : PartState) → IsPart x.cast p c s → IsPart x.cast (begun p) c s
  begun_part c s P = record { whole = P.whole; ended = λ B. P.ended (rests c B); inputs = λ B k I. P.inputs (rests c B) k I }

  -- all have ended where the second Idle is begun, so no work is out
  no_work : (c : ℕ) (a : Component) (work : Work) → c < components_of x.cast → IsWorkAt x.cast p c a work → ⊥
  no_work c a work l K =
      let R = act_reaches (x.cast).layout p Act.Begin W.reached C in
      let e = K.phase in
      let t : (p.flow).ended c ≡ true = R.ended (omega arith) c l in
      let f : true ≡ false = sym t ∙ K.going in
      cc

  over_told : (c : ℕ) (a : Component) → c < components_of x.cast → IsActorAt x recent p w c a → 3 ≤ p.phase + 1 → ((x.cast).layout).is_sink c ≡ true → p.told c ≡ true
  over_told c a l A h s = elim (cases_eq p.phase 2) [ inl e ↦ C.ends e c l s | inr n ↦ A.over (omega arith) s ]

  begun_heard : (c : ℕ) (h : Progress) → c < components_of x.cast → HasHeard x.cast recent p c h → HasHeard x.cast recent (begun p) c h
  begun_heard c h l H =
      let four : p.stage c ≡ 4 = C.all c l in
      record {
        state = H.state ∙ (ap (last_told p.phase) four ∙ sym (begin_told p.phase));
        eos = H.eos;
        error = H.error;
        settings = H.settings;
        port = H.port;
        past = H.past;
        nothing = H.nothing;
      }

  begun_actor : (c : ℕ) (a : Component) → c < components_of x.cast → IsActorAt x recent p w c a → IsActorAt x recent (begun p) w c a
  begun_actor c a l A =
      let four : p.stage c ≡ 4 = C.all c l in
      let commands : List Command = port_commands x.cast p c in
      let now : a ≡ record (standing p.phase 4 a) { commands = commands } =
      A.stands ∙ ap (λ (k : ℕ). record (standing p.phase k a) { commands = commands_at p.phase k ++ commands }) four
      in
      let said = ap (λ (k : ℕ). state_note p.phase k ++ (settings_notes x.cast p c ++ (port_notes x.cast p c ++ end_note (ends_untold x.cast p c)))) four in
      record {
        number = A.number;
        stands = now ∙ ap (λ (y : Component). record y { commands = commands }) (begin_stands p.phase a C.more);
        set_for = A.set_for;
        roomy = A.roomy;
        source = A.source;
        sink = A.sink;
        late = A.late;
        late_format = A.late_format;
        file = A.file;
        notes = A.notes ∙ said;
        heard_so = begun_heard c _ l A.heard_so;
        out = A.out;
        part = begun_part c a.part A.part;
        done = A.done;
        work = λ work e. absurd (no_work c a work l (A.work work e));
        running = λ e s. let O = (W.reached).opening (omega arith) in O.going c;
        over = λ h s. over_told c a l A h s;
        unsteady = A.unsteady;
      }

  begun_end : (l : ℕ) (output : Bool) (at peer : PortKey) (q : Port) → IsEndAt x p l output at peer q → IsEndAt x (begun p) l output at peer q
  begun_end l output at peer q E = record { key = E.key; state = E.state; direction = E.direction; count = E.count; size = E.size; known = E.known; unit = E.unit; format = E.format }

  begun_wired : (l : ℕ) → IsWiredAt x p (port_in w.components) l → IsWiredAt x (begun p) (port_in w.components) l
  begun_wired l D = record {
    output = D.output;
    input = D.input;
    output_there = D.output_there;
    input_there = D.input_there;
    output_end = begun_end l true _ _ D.output D.output_end;
    input_end = begun_end l false _ _ D.input D.input_end;
    apart = D.apart;
    supplied = D.supplied;
  }

  pub begins : IsPlayWorld x recent (acted (x.cast).layout Act.Begin p) w
  begins = record {
    cast_is = W.cast_is;
    formats = W.formats;
    reached = act_reaches (x.cast).layout p Act.Begin W.reached C;
    sound = W.sound;
    many = W.many;
    actors = λ c a l e. begun_actor c a l (W.actors c a l e);
    half = W.half;
    wired = λ l b. begun_wired l (W.wired l b);
    ends = W.ends;
    viewed = W.viewed;
    headers = W.headers;
    tunnelled = W.tunnelled;
    units = W.units;
    numbers =
        let s = sum_fewer (links_of x.cast) (left_to_make x.cast (begun p)) (left_to_make x.cast p) (left_later x.cast p) in
        let n = W.numbers in
        omega arith;
  }
