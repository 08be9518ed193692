-- From all components stopped to no header left, link by link.
use Rattle.std.proofs.Common.{◌≡◌, ℕ, ◌+◌, Bool, true, false, ◌||◌, List, [], ◌∷◌, length, refl, sym, ◌∙◌, ap, arith, inl, inr}
use Rattle.std.proofs.lemmas.Bool.{cases_eq}
use Rattle.std.proofs.lemmas.Option.{slice_get_within}
use Rattle.il_machine.specs.declared.port.PortKey.{PortKey}
use Rattle.il_machine.specs.Headers.{find_header}
use Rattle.il_machine.specs.Look.{look}
use Rattle.il_machine.specs.States.{is_loaded}
use Rattle.il_machine.specs.World.{HeaderRecord, World}
use Rattle.machine_laws.proofs.Every.{at_place, from_places}
use Rattle.machine_laws.proofs.Finding.{found_head}
use Rattle.play_build_laws.specs.Dismantling.{IsParted, IsResting}
use Rattle.play_build_laws.specs.Halting.{AreStoppedTo, IsBrought, IsCleared, IsLinked, IsStopped, headers_at}
use Rattle.play_build_laws.proofs.Counting.{is_some_there}
use Rattle.play_build_laws.proofs.Linked.{at_end, client_in, work_none}

pub all_stopped : (end : Bool → ℕ → PortKey) (links : ℕ) (w : World) → IsLinked end links w → AreStoppedTo (length w.components) w → IsCleared end links 0 w
all_stopped end links w L A = record {
  linked = L;
  stopped = from_places IsStopped w.components (λ i a e. A.stopped i a (slice_get_within w.components i a e) e);
  none = λ side l b. absurd (omega (arith, b));
}

pub next_cleared : (end : Bool → ℕ → PortKey) (links l : ℕ) (w : World) → IsBrought end links l w → headers_at (end true l) (look w) ≡ 0 → IsCleared end links (l + 1) w
next_cleared end links l w B z = record { linked = B.cleared.linked; stopped = B.cleared.stopped; none = λ side m b. elim (cases_eq m l) [ inl e ↦ here side m e | inr n ↦ B.cleared.none side m (omega (arith, b, n)) ] }
  where
    here : (side : Bool) (m : ℕ) → m ≡ l → headers_at (end side m) (look w) ≡ 0
    here false m e = ap (λ (k : ℕ). headers_at (end false k) (look w)) e ∙ B.none
    here true m e = ap (λ (k : ℕ). headers_at (end true k) (look w)) e ∙ z

no_header : (end : Bool → ℕ → PortKey) (links : ℕ) (w : World) → IsCleared end links links w → (hs : List HeaderRecord) → w.headers ≡ hs → w.headers ≡ []
no_header end links w C [] e = e
no_header end links w C (r ∷ rs) e =
    let f = ap (find_header r.state.number) e ∙ found_head r.state.number r rs refl in
    let A = at_end end links w C.linked r.state.number r f in
    let E = A.end_is in
    let one = is_some_there A.key w r.state.number r f A.owner A.queue in
    let none : headers_at A.key (look w) ≡ 0 = ap (λ (k : PortKey). headers_at k (look w)) (sym E.is) ∙ C.none E.side E.number E.below in
    absurd (omega (arith, one, none))

either_way : (a : Bool) → (a || true) ≡ true
either_way true = refl
either_way false = refl

pub all_cleared : (end : Bool → ℕ → PortKey) (links : ℕ) (w : World) → IsCleared end links links w → IsParted end links 0 w
all_cleared end links w C =
    let L = C.linked in
    record {
      quiet = record {
        sound = L.sound;
        headers = no_header end links w C w.headers refl;
        components = from_places IsResting w.components (λ i a e.
            let S = at_place IsStopped w.components i a C.stopped e in
            record {
              down = ap (λ (b : Bool). is_loaded a.state || b) S.invalid ∙ either_way (is_loaded a.state);
              calm = S.calm;
              work = work_none end links w L i a e;
              client = client_in end links w L i a e;
            });
        numbered = L.has.numbered;
      };
      inside = L.has.inside;
      joined = λ side l a n b e. (L.has.joined side l a b e).joint;
      only = λ i port a s e f t. L.has.ends i port a s e f;
    }
