-- A play's world in which headers changed, and no component.
use Rattle.std.proofs.Common.{◌≡◌, ◌≢◌, inl, inr, ℕ, zero, suc, ◌*◌, ◌/◌, ◌<◌, ◌≤◌, false, nat_eq, List, [], ◌∷◌, length, map, slice_get, option_and_then, Option, Some, None, option_map, refl, sym, ◌∙◌, ap, subst, eqb-true, eq-eqb, arith}
use Rattle.std.proofs.lemmas.Bool.{cases_eq}
use Rattle.il_machine.specs.declared.port.PortKey.{PortKey}
use Rattle.il_machine.specs.declared.header.Owner.TheVariants as owners
use Rattle.il_machine.specs.declared.header.Spot.{Spot}
use Rattle.il_machine.specs.Lists.{holds_at}
use Rattle.il_machine.specs.Sound.{Sound, is_in_work_of}
use Rattle.il_machine.specs.World.{Component, HeaderRecord, Picked, Work, World, number_of}
use Rattle.il_machine.specs.Headers.{find_header, state_of, same_key, put, put_at, weight, Once}
use Rattle.il_machine.specs.Census.{times, work_numbers}
use Rattle.machine_laws.proofs.Finding.{either}
use Rattle.machine_laws.proofs.Keys.{key_is}
use Rattle.machine_laws.proofs.Listed.{times_cons}
use Rattle.machine_laws.proofs.Parts.{parts_of}
use Rattle.machine_laws.proofs.Replacing.{replaced_put}
use Rattle.play_model.specs.Progress.{sum_to}
use Rattle.play_model.specs.Play.{Play}
use Rattle.play_world_laws.specs.View.{AreApart, picked_at, worked_at, is_in}
use Rattle.play_world_laws.specs.Cast.{Cast, IsCast, links_of, output_at, input_at}
use Rattle.play_world_laws.specs.Wiring.{work_in, ends_of}
use Rattle.play_world_laws.specs.Worlds.{HasLink}

-- ---- links beside

pub key_not : (a b : PortKey) → a ≢ b → same_key a b ≡ false
key_not a b n = either (same_key a b) (λ t. absurd (n (key_is a b t))) (λ f. f)

pub links_apart : (x : Cast) (works : PortKey → List ℕ) (p : Play) (l k : ℕ) → IsCast x → l < links_of x → k < links_of x → k ≢ l → AreApart (ends_of x works p l) (ends_of x works p k)
links_apart x works p l k C a b n = record {
  outputs = key_not (output_at x k) (output_at x l) (λ e. n (C.outputs k l b a e));
  output_input = key_not (output_at x k) (input_at x l) (C.beside k l b a);
  input_output = key_not (input_at x k) (output_at x l) (λ e. C.beside l k a b (sym e));
  inputs = key_not (input_at x k) (input_at x l) (λ e. n (C.inputs k l b a e));
}

-- ---- a header of a port is in no work

not_picked : (n port : ℕ) (xs : List Picked) → times n (map (λ y. y.number) xs) ≡ 0 → is_in n (picked_at port xs) ≡ false
not_picked n port [] e = refl
not_picked n port (y ∷ xs) e =
    let c = times_cons n y.number (map (λ z. z.number) xs) in
    let z : times n (map (λ z. z.number) xs) ≡ 0 = omega arith in
    let i = not_picked n port xs z in
    let w : weight (nat_eq y.number n) ≡ 0 = omega arith in
    either (nat_eq y.port port)
    (λ t. either (nat_eq n y.number)
    (λ u.
    let q : n ≡ y.number = eqb-true _ _ u in
    let o : weight (nat_eq y.number n) ≡ 1 = rw (eq-eqb y.number n (sym q)) refl in
    absurd (omega arith))
    (λ u. rw (t, u) i))
    (λ f. rw f i)

pub not_worked_by : (n port : ℕ) (work : Option Work) → times n (work_numbers work) ≡ 0 → is_in n (worked_at work port) ≡ false
not_worked_by n port None e = refl
not_worked_by n port (Some work) e = not_picked n port work.headers e

not_worked_at : (w : World) (n port i : ℕ) (r : HeaderRecord) (key : PortKey) (o : Option Component) → Sound w → find_header n w.headers ≡ Some r → r.state.owner ≡ owners.Port key → slice_get w.components i ≡ o
    → is_in n (worked_at (option_and_then (λ c. c.work) o) port) ≡ false
not_worked_at w n port i r key None S f p e = refl
not_worked_at w n port i r key (Some c) S f p e =
    let t : times n (work_numbers c.work) ≡ weight (holds_at (option_map state_of (find_header n w.headers)) (is_in_work_of (number_of c))) = ((parts_of w S).works).claimed i c e n in
    let z : weight (holds_at (option_map state_of (find_header n w.headers)) (is_in_work_of (number_of c))) ≡ 0 = rw (f, p) refl in
    not_worked_by n port c.work (t ∙ z)

pub not_worked : (w : World) (n : ℕ) (r : HeaderRecord) (owner key : PortKey) → Sound w → find_header n w.headers ≡ Some r → r.state.owner ≡ owners.Port owner → is_in n (work_in w.components key) ≡ false
not_worked w n r owner key S f p = not_worked_at w n key.port key.component r owner (slice_get w.components key.component) S f p refl

-- ---- a header that is put elsewhere keeps its link

pub link_kept : (x : Cast) (r s : HeaderRecord) → s.state.port ≡ r.state.port → s.state.peer ≡ r.state.peer → s.state.size ≡ r.state.size → s.load.mark ≡ r.load.mark
    → ((l : ℕ) → length r.load.content / x.unit l * x.unit l ≡ length r.load.content → length s.load.content / x.unit l * x.unit l ≡ length s.load.content) → HasLink x r → HasLink x s
link_kept x r s a b c d f H =
    let I = H.whole in
    record {
      link = H.link;
      below = H.below;
      whole = record {
        for_link = rw (a, b) I.for_link;
        unmarked = d ∙ I.unmarked;
        size = c ∙ I.size;
        frames = f H.link I.frames;
      };
    }

pub put_links : (x : Cast) (key : PortKey) (spot : Spot) (change : HeaderRecord → HeaderRecord) (n : ℕ) (r : HeaderRecord) (hs : List HeaderRecord) → ((y : HeaderRecord) → (change y).state.number ≡ y.state.number) → Once hs → find_header n hs ≡ Some r
    → HasLink x (put_at key spot (change r)) → ((m : ℕ) (y : HeaderRecord) → find_header m hs ≡ Some y → HasLink x y)
    → (m : ℕ) (y : HeaderRecord) → find_header m (put key spot n change hs) ≡ Some y → HasLink x y
put_links x key spot change n r hs keeps o f H all m y g =
    let R = replaced_put key spot change keeps n hs r o f in
    elim (cases_eq m n) [
      | inl e ↦
          let s : Some (put_at key spot (change r)) ≡ Some y = sym R.here ∙ (ap (λ (k : ℕ). find_header k (put key spot n change hs)) (sym e) ∙ g) in
          let is : put_at key spot (change r) ≡ y = cc in
          subst (λ (z : HeaderRecord). HasLink x z) is H
      | inr d ↦ all m y (sym (R.others m d) ∙ g)
    ]

pub sum_fewer : (n : ℕ) (f g : ℕ → ℕ) → ((l : ℕ) → l < n → f l ≤ g l) → sum_to n f ≤ sum_to n g
sum_fewer zero f g h = omega arith
sum_fewer (suc n) f g h = let i = sum_fewer n f g (λ l b. h l (omega arith)) in let a = h n (omega arith) in omega arith
