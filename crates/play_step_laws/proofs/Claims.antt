-- The headers of a work that is claimed: for the links nothing has changed.
use Rattle.std.proofs.Common.{◌≡◌, ◌≢◌, inl, inr, ℕ, ◌<◌, Bool, true, false, List, [], ◌∷◌, length, map, Some, None, refl, sym, ◌∙◌, ap, subst, arith}
use Rattle.std.proofs.lemmas.Bool.{cases_eq}
use Rattle.il_machine.specs.declared.header.Owner.TheVariants as owners
use Rattle.il_machine.specs.declared.port.PortKey.{PortKey}
use Rattle.il_machine.specs.declared.port.Port.{Port}
use Rattle.il_machine.specs.World.{Component, HeaderRecord, Picked, Work, World, number_of}
use Rattle.il_machine.specs.Headers.{seen, same_key, find_header, changed, given_to, Once}
use Rattle.il_machine.specs.Look.{look}
use Rattle.il_machine.specs.Claims.{wanted, work_of, with_work, all_given_out, claim_idle}
use Rattle.il_machine.specs.Sound.{Sound, ArePicked}
use Rattle.machine_laws.proofs.Claiming.{claim_passes, sound_claimed}
use Rattle.machine_laws.proofs.Every.{set_there}
use Rattle.machine_laws.proofs.Keys.{key_same}
use Rattle.machine_laws.proofs.Lookups.{port_parts}
use Rattle.machine_laws.proofs.Parts.{parts_of}
use Rattle.machine_laws.proofs.Replacing.{replaced_changed}
use Rattle.play_model.specs.Moves.{CanClaim}
use Rattle.play_model.specs.Play.{Play, IsRunning}
use Rattle.play_world_laws.specs.View.{link_view, picked_at}
use Rattle.play_world_laws.proofs.Counts.{keys_apart}
use Rattle.play_world_laws.proofs.Works.{is_given, claim_output, claim_input, claim_beside}
use Rattle.play_world_laws.specs.Cast.{Cast, links_of, script_place, output_at, input_at}
use Rattle.play_world_laws.specs.Wiring.{work_in, ends_of}
use Rattle.play_world_laws.specs.Worlds.{IsBeforeRest, HasLink}
use Rattle.play_world_laws.proofs.Flowing.{key_not, link_kept}
use Rattle.play_world_laws.proofs.Folds.{all_made, AreReady, ready_from, fold_beside, fold_here}
use Rattle.play_world_laws.proofs.Wanted.{end_at, end_place}
use Rattle.play_step_laws.proofs.Wanted.{wanted_from}
use Rattle.play_step_laws.proofs.Claimable.{before_rest, own_works, filled_by, claim_can}
use Rattle.play_world_laws.proofs.Picks.{picked_ports, picked_todo, picks_rise, picked_none, picked_one, works_here, works_else, ends_with, seen_with, IsPick, pick_key, key_is_end, beside_ends, links_differ}
use Rattle.play_step_laws.proofs.Picks.{pick_link, link_picked}
use Rattle.play_step_laws.proofs.Poised.{IsPoised}

-- ---- headers that go out one after another

abbrev pub goes_out : ℕ → Picked → List HeaderRecord → List HeaderRecord
goes_out k y hs = changed y.number (given_to (owners.Work k)) hs

-- it is the front of its port's todo
abbrev pub IsFirst : Cast → ℕ → Picked → List HeaderRecord → Type 0
IsFirst x c y hs = Once hs × (ns : List ℕ) × ((seen hs).todo (pick_key x c y) ≡ y.number ∷ ns)

abbrev pub AreTwoPorts : Picked → Picked → Type 0
AreTwoPorts u y = u.port < y.port

pub first_stays : (x : Cast) (c k : ℕ) (z u : Picked) (hs : List HeaderRecord) → AreTwoPorts z u → IsFirst x c z hs → IsFirst x c u hs → IsFirst x c u (goes_out k z hs)
first_stays x c k z u hs t r s =
    let G = is_given (owners.Work k) (pick_key x c z) z.number r.1 hs r.0 r.2 in
    let d = key_not (pick_key x c u) (pick_key x c z) (λ f. let g : u.port ≡ z.port = ap (λ (y : PortKey). y.port) f in omega arith) in
    (G.once, s.1, G.todo (pick_key x c u) d ∙ s.2)

all_out : (k : ℕ) (xs : List Picked) (hs : List HeaderRecord) → all_given_out k xs hs ≡ all_made (goes_out k) xs hs
all_out k [] hs = refl
all_out k (y ∷ xs) hs = all_out k xs (goes_out k y hs)

pub out_links : (x : Cast) (k : ℕ) (y : Picked) (hs : List HeaderRecord) → Once hs → (r : HeaderRecord) → find_header y.number hs ≡ Some r
    → ((n : ℕ) (s : HeaderRecord) → find_header n hs ≡ Some s → HasLink x s) → (n : ℕ) (s : HeaderRecord) → find_header n (goes_out k y hs) ≡ Some s → HasLink x s
out_links x k y hs o r f all n s g =
    let R = replaced_changed (given_to (owners.Work k)) (λ _. refl) y.number hs r o f in
    elim (cases_eq n y.number) [
      | inl t ↦
          let z : Some (given_to (owners.Work k) r) ≡ Some s = sym R.here ∙ (ap (λ (m : ℕ). find_header m (goes_out k y hs)) (sym t) ∙ g) in
          let is : given_to (owners.Work k) r ≡ s = cc in
          subst (λ (u : HeaderRecord). HasLink x u) is (link_kept x r (given_to (owners.Work k) r) refl refl refl refl (λ l h. h) (all y.number r f))
      | inr d ↦ all n s (sym (R.others n d) ∙ g)
    ]

-- ---- the world with the work

module _ (x : Cast) (p : Play) (w : World) (c : ℕ) (a : Component) (U : IsPoised x p w c a) (free : a.work ≡ None)
    (idle : claim_idle (look w) a ≡ None) where
  abbrev i : ℕ
  i = script_place x c

  abbrev pub work : Work
  work = work_of (seen w.headers) a

  abbrev pub d : Component
  d = record a { work = Some work }

  abbrev pub v : World
  v = with_work i a work w

  abbrev pub xs : List Picked
  xs = work.headers

  pub can : IsRunning p c × (p.phase ≡ 2) × CanClaim (x.layout).network p.flow c
  can = claim_can x p w c a U free (claim_passes (look w) a idle)

  before : IsBeforeRest p c
  before = before_rest x p w c a U can.0

  pub sound : Sound v
  sound = sound_claimed w i a U.sound U.there idle

  pub ports_are : map (λ (y : Picked). y.port) xs ≡ map (λ (q : Port). q.key.port) (wanted a)
  ports_are = picked_ports (seen w.headers) (wanted a) (λ j q f.
      let V = wanted_from x p w c a U j q before f in
      filled_by x p w c a U free (V.0).input (V.0).link q can.2 (V.0).of_link ((V.0).end).key V.1)

  rising : ArePicked 0 xs (length a.ports)
  rising = ((parts_of v sound).lawful i d work (set_there w.components i a d U.there) refl).rising

  pub firsts : AreReady (IsFirst x c) AreTwoPorts xs w.headers
  firsts = ready_from (goes_out (number_of a)) (IsFirst x c) AreTwoPorts xs w.headers
      (λ j y f.
      let r = picked_todo (seen w.headers) (wanted a) j y f in
      let V = wanted_from x p w c a U r.1 r.0 before r.2 in
      let K = (port_parts a V.2 r.0 V.3).key in
      let n : ((r.0).key).component ≡ i = ap (λ (z : PortKey). z.component) K ∙ U.number in
      let m = r.3 in
      let k : pick_key x c y ≡ (r.0).key = λ t. record { component = sym n t; port = m t } in
      ((U.sound).once, r.4, ap (λ (z : PortKey). (seen w.headers).todo z) k ∙ r.5))
      (λ j k u y l f g. picks_rise 0 (length a.ports) xs j k u y rising l f g)

  pub out_is : v.headers ≡ all_made (goes_out (number_of a)) xs w.headers
  out_is = all_out (number_of a) xs w.headers

  -- ---- the links

  apart : (k : ℕ) → k < links_of x → same_key (input_at x k) (output_at x k) ≡ false
  apart k m = keys_apart (input_at x k) (output_at x k) (λ t. U.apart k m (sym t))

  one_beside : (k : ℕ) (m : k < links_of x) (f g : List ℕ) (j l : ℕ) (y : Picked) (input : Bool) → IsPick x p c xs j y l input → k ≢ l → (ks : List HeaderRecord) → IsFirst x c y ks
      → link_view (ends_with x p k f g) (goes_out (number_of a) y ks) ≡ link_view (ends_with x p k f g) ks
  one_beside k m f g j l y input P n ks r =
      let s = beside_ends x p U.cast c xs j l k y input P m n in
      claim_beside (owners.Work (number_of a)) (ends_with x p k f g) ks y.number r.1 r.0 (apart k m) (pick_key x c y) s.0 s.1 r.2

  others_beside : (k : ℕ) (m : k < links_of x) (f g : List ℕ) → ((j l : ℕ) (y : Picked) (input : Bool) → IsPick x p c xs j y l input → k ≢ l) → link_view (ends_with x p k f g) v.headers ≡ link_view (ends_with x p k f g) w.headers
  others_beside k m f g n =
      ap (link_view (ends_with x p k f g)) out_is ∙ fold_beside (goes_out (number_of a)) (IsFirst x c) AreTwoPorts (first_stays x c (number_of a)) (link_view (ends_with x p k f g)) xs w.headers
      (λ j y h ks r. let P = pick_link x p w c a U before xs ports_are j y h in one_beside k m f g j P.0 y P.1 P.2 (n j P.0 y P.1 P.2) ks r) firsts

  -- a work's headers of an end of a link that has none in it
  unpicked : (s : Bool) (k : ℕ) → k < links_of x → ((j l : ℕ) (y : Picked) (input : Bool) → IsPick x p c xs j y l input → k ≢ l) → work_in v.components (end_at s x k) ≡ work_in w.components (end_at s x k)
  unpicked s k m n =
      let key : PortKey = end_at s x k in
      elim (cases_eq key.component i) [
        | inl t ↦
            let none : work_in w.components key ≡ [] = own_works x p w c a U key t ∙ rw free refl in
            works_here w.components i a d U.there key t
            ∙ (picked_none key.port xs (λ j y f g.
            let P = pick_link x p w c a U before xs ports_are j y f in
            let z : pick_key x c y ≡ key = λ u. record { component = sym t u; port = g u } in
            no_end s k P.0 P.1 (sym z ∙ key_is_end x p U.cast c xs j P.0 y P.1 P.2) m (n j P.0 y P.1 P.2) j y P.2)
            ∙ sym none)
        | inr t ↦ works_else w.components i a d U.there key t
      ]
    where
      no_end : (s : Bool) (k l : ℕ) (input : Bool) → end_at s x k ≡ end_at input x l → k < links_of x → k ≢ l → (j : ℕ) (y : Picked) → IsPick x p c xs j y l input → ⊥
      no_end true k l input z m n j y P =
          let f = (beside_ends x p U.cast c xs j l k y input P m n).1 in
          let g : same_key (input_at x k) (pick_key x c y) ≡ true = ap (same_key (input_at x k)) (key_is_end x p U.cast c xs j l y input P ∙ sym z) ∙ key_same (input_at x k) in
          absurd cc
      no_end false k l input z m n j y P =
          let f = (beside_ends x p U.cast c xs j l k y input P m n).0 in
          let g : same_key (output_at x k) (pick_key x c y) ≡ true = ap (same_key (output_at x k)) (key_is_end x p U.cast c xs j l y input P ∙ sym z) ∙ key_same (output_at x k) in
          absurd cc

  other_end : (s t : Bool) (k : ℕ) → k < links_of x → (end_at s x k).component ≢ (end_at t x k).component → (end_at s x k).component ≡ i → work_in v.components (end_at t x k) ≡ work_in w.components (end_at t x k)
  other_end s t k m n h = works_else w.components i a d U.there (end_at t x k) (λ f. n (h ∙ sym f))

  its_header : (input : Bool) (k j : ℕ) (y : Picked) → IsPick x p c xs j y k input → (work_in v.components (end_at input x k) ≡ y.number ∷ []) × (work_in w.components (end_at input x k) ≡ [])
  its_header input k j y P =
      let place = end_place input x c k P.of_link in (
        works_here w.components i a d U.there (end_at input x k) place ∙ (ap (λ (z : ℕ). picked_at z xs) (sym P.port) ∙ picked_one 0 (length a.ports) xs j y rising P.there),
        own_works x p w c a U (end_at input x k) place ∙ rw free refl,
      )

  view_picked : (input : Bool) (k : ℕ) (m : k < links_of x) (j : ℕ) (y : Picked) → IsPick x p c xs j y k input → link_view (ends_of x (work_in v.components) p k) v.headers ≡ link_view (ends_of x (work_in w.components) p k) w.headers
  view_picked false k m j y P =
      let D = U.apart k m in
      let g = work_in w.components (input_at x k) in
      let own = its_header false k j y P in
      let other = other_end false true k m D (end_place false x c k P.of_link) in
      let key = key_is_end x p U.cast c xs j k y false P in
      let fold = fold_here (goes_out (number_of a)) (IsFirst x c) AreTwoPorts (first_stays x c (number_of a)) (link_view (ends_with x p k [] g)) (link_view (ends_with x p k (y.number ∷ []) g)) (λ z. z) xs j y w.headers P.there
      (λ t u n f ks r.
      let Q = pick_link x p w c a U before xs ports_are t u f in
      let q = links_differ x p U.cast c xs 0 (length a.ports) rising j t k Q.0 y u false Q.1 P Q.2 (λ z. n (sym z)) in
      (one_beside k m [] g t Q.0 u Q.1 Q.2 q ks r, one_beside k m (y.number ∷ []) g t Q.0 u Q.1 Q.2 q ks r))
      (λ ks r. claim_output (owners.Work (number_of a)) (ends_with x p k [] g) ks y.number r.1 r.0 (apart k m) (ap (λ (z : PortKey). (seen ks).todo z) (sym key) ∙ r.2)) firsts in
      seen_with x (work_in v.components) p k v.headers (y.number ∷ []) g own.0 other
      ∙ (ap (link_view (ends_with x p k (y.number ∷ []) g)) out_is ∙ (fold ∙ sym (seen_with x (work_in w.components) p k w.headers [] g own.1 refl)))
  view_picked true k m j y P =
      let D = U.apart k m in
      let g = work_in w.components (output_at x k) in
      let own = its_header true k j y P in
      let other = other_end true false k m (λ z. D (sym z)) (end_place true x c k P.of_link) in
      let key = key_is_end x p U.cast c xs j k y true P in
      let fold = fold_here (goes_out (number_of a)) (IsFirst x c) AreTwoPorts (first_stays x c (number_of a)) (link_view (ends_with x p k g [])) (link_view (ends_with x p k g (y.number ∷ []))) (λ z. z) xs j y w.headers P.there
      (λ t u n f ks r.
      let Q = pick_link x p w c a U before xs ports_are t u f in
      let q = links_differ x p U.cast c xs 0 (length a.ports) rising j t k Q.0 y u true Q.1 P Q.2 (λ z. n (sym z)) in
      (one_beside k m g [] t Q.0 u Q.1 Q.2 q ks r, one_beside k m g (y.number ∷ []) t Q.0 u Q.1 Q.2 q ks r))
      (λ ks r. claim_input (owners.Work (number_of a)) (ends_with x p k g []) ks y.number r.1 r.0 (apart k m) refl (ap (λ (z : PortKey). (seen ks).todo z) (sym key) ∙ r.2)) firsts in
      seen_with x (work_in v.components) p k v.headers g (y.number ∷ []) other own.0
      ∙ (ap (link_view (ends_with x p k g (y.number ∷ []))) out_is ∙ (fold ∙ sym (seen_with x (work_in w.components) p k w.headers g [] refl own.1)))

  pub claim_viewed : (k : ℕ) → k < links_of x → (p.flow).link k ≡ link_view (ends_of x (work_in v.components) p k) v.headers
  claim_viewed k m = U.viewed k m ∙ sym (elim (link_picked x p w c a U before xs ports_are k m) [
    | inl r ↦ view_picked r.2 k m r.0 r.1 r.3
    | inr n ↦
        let f = work_in w.components (output_at x k) in
        let g = work_in w.components (input_at x k) in
        seen_with x (work_in v.components) p k v.headers f g (unpicked false k m n) (unpicked true k m n) ∙ others_beside k m f g n
  ])
