-- A world of a play in which the headers of one link changed, and all components stayed.
use Rattle.std.proofs.Common.{◌≡◌, ◌≢◌, inl, inr, ℕ, ◌+◌, ◌<◌, ◌≤◌, Bool, true, false, List, Some, sym, ◌∙◌, ap, subst}
use Rattle.std.proofs.lemmas.Bool.{cases_eq}
use Rattle.il_machine.specs.declared.port.Port.{Port}
use Rattle.il_machine.specs.declared.port.PortKey.{PortKey}
use Rattle.il_machine.specs.Headers.{find_header, is_for}
use Rattle.il_machine.specs.Sound.{Sound}
use Rattle.il_machine.specs.World.{Component, HeaderRecord, World}
use Rattle.play_model.specs.Moves.{with_link}
use Rattle.play_model.specs.Network.{LinkState}
use Rattle.play_model.specs.Progress.{all_headers, sum_to}
use Rattle.play_model.specs.Play.{Play}
use Rattle.play_model.specs.Reached.{IsReached}
use Rattle.play_world_laws.specs.View.{LinkEnds, link_view}
use Rattle.play_world_laws.specs.Cast.{links_of}
use Rattle.play_world_laws.specs.Wiring.{ends_of, work_in}
use Rattle.play_world_laws.specs.Worlds.{HasLink}
use Rattle.play_world_laws.proofs.Passing.{changed_else, changed_here, kept_by, view_as}
use Rattle.play_world_laws.specs.Changing.{is_joined_at}
use Rattle.play_world_laws.specs.PlayWorlds.{IsActorAt, IsEndAt, IsPlayWorld, PlayCast, end_of_link, left_to_make, made_again}

module _ (x : PlayCast) (recent : ℕ) (p : Play) (w : World) (W : IsPlayWorld x recent p w) (l : ℕ) (b : l < links_of x.cast) (change : LinkState → LinkState) (ks : List HeaderRecord) (m : ℕ) where
  abbrev pub works : PortKey → List ℕ
  works = work_in w.components

  abbrev pub q : Play
  q = record p { flow = with_link l change p.flow }

  abbrev pub v : World
  v = record w { headers = ks; made = m }

  module _ (closed : (change ((p.flow).link l)).closed ≡ ((p.flow).link l).closed) where
    closed_stays : (k : ℕ) → ((q.flow).link k).closed ≡ ((p.flow).link k).closed
    closed_stays k = kept_by (λ (y : LinkState). y.closed) change l p.flow closed k

    actor_stays : (c : ℕ) (a : Component) → IsActorAt x recent p w c a → IsActorAt x recent q v c a
    actor_stays c a A = record {
      number = A.number;
      stands = A.stands;
      set_for = A.set_for;
      roomy = A.roomy;
      source = A.source;
      sink = A.sink;
      late = A.late;
      late_format = A.late_format;
      file = A.file;
      notes = A.notes;
      heard_so = (let H = A.heard_so in record { state = H.state; eos = H.eos; error = H.error; settings = H.settings; port = H.port; past = H.past; nothing = H.nothing });
      out = A.out;
      part = record { whole = (A.part).whole; ended = (A.part).ended; inputs = λ B j I. (A.part).inputs B j I ∙ sym (closed_stays j) };
      done = A.done;
      work = λ work e.
          let K = A.work work e in
          record {
            phase = K.phase;
            stage = K.stage;
            going = K.going;
            gain = K.gain;
            weights = K.weights;
            which = elim K.which [
              | inl h ↦ inl (h.0, record { outputs = (h.1).outputs; inputs = (h.1).inputs }, h.2)
              | inr N ↦ inr (record { link = N.link; output = N.output; late = N.late; unannounced = N.unannounced; none = N.none; announces = N.announces })
            ];
          };
      running = A.running;
      over = A.over;
      unsteady = A.unsteady;
    }

  end_stays : (k : ℕ) (s : Bool) (at peer : PortKey) (y : Port) → IsEndAt x p k s at peer y → IsEndAt x q k s at peer y
  end_stays k s at peer y E = record { key = E.key; state = E.state; direction = E.direction; count = E.count; size = E.size; known = E.known; unit = E.unit; format = E.format }

  -- by what it is for this link, and that it is nothing for the others
  pub link_changed : (change ((p.flow).link l)).closed ≡ ((p.flow).link l).closed → (change ((p.flow).link l)).taken ≡ ((p.flow).link l).taken
      → link_view (ends_of x.cast works p l) ks ≡ change (link_view (ends_of x.cast works p l) w.headers)
      → ((k : ℕ) → k < links_of x.cast → k ≢ l → link_view (ends_of x.cast works p k) ks ≡ link_view (ends_of x.cast works p k) w.headers)
      → ((n : ℕ) (r : HeaderRecord) → find_header n ks ≡ Some r → HasLink x.cast r)
      → ((n : ℕ) (r : HeaderRecord) (s : Bool) (k : ℕ) → find_header n ks ≡ Some r → k < links_of x.cast → ((x.cast).layout).is_late k ≡ true → is_for (end_of_link x.cast s k) r.state ≡ true → is_joined_at (p.change k).step ≡ true)
      → m + sum_to (links_of x.cast) (left_to_make x.cast q) ≤ all_headers ((x.cast).layout).network + sum_to (links_of x.cast) (made_again x.cast)
      → IsReached (x.cast).layout q → Sound v → IsPlayWorld x recent q v
  link_changed c t here beside links tunnelled numbers R S = record {
    cast_is = W.cast_is;
    formats = W.formats;
    reached = R;
    sound = S;
    many = W.many;
    actors = λ d a h e. actor_stays c d a (W.actors d a h e);
    half = W.half;
    wired = λ k h.
        let D = W.wired k h in
        record { output = D.output; input = D.input; output_there = D.output_there; input_there = D.input_there; output_end = end_stays k true _ _ D.output D.output_end; input_end = end_stays k false _ _ D.input D.input_end; apart = D.apart; supplied = D.supplied };
    ends = W.ends;
    viewed = λ k h.
        let y : LinkEnds = ends_of x.cast works p k in
        let same : link_view (ends_of x.cast works q k) ks ≡ link_view y ks =
        view_as y ((q.flow).link k).taken ((q.flow).link k).closed ks (kept_by (λ (z : LinkState). z.taken) change l p.flow t k) (kept_by (λ (z : LinkState). z.closed) change l p.flow c k) in
        elim (cases_eq k l) [
          | inl s ↦
              let one : (q.flow).link l ≡ link_view (ends_of x.cast works p l) ks = changed_here change l p.flow ∙ (ap change (W.viewed l b) ∙ sym here) in
              subst (λ (j : ℕ). (q.flow).link j ≡ link_view (ends_of x.cast works p j) ks) (sym s) one ∙ sym same
          | inr s ↦ changed_else change l p.flow k s ∙ (W.viewed k h ∙ (sym (beside k h s) ∙ sym same))
        ];
    headers = links;
    tunnelled = tunnelled;
    units = W.units;
    numbers = numbers;
  }
