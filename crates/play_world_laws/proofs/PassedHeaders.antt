-- A header goes on, or comes back: the model's two moves.
use Rattle.std.proofs.Common.{◌≡◌, ◌≢◌, inl, inr, ℕ, ◌<◌, ◌≤◌, Bool, true, false, List, [], ◌∷◌, Some, refl, sym, ◌∙◌, ap, arith}
use Rattle.std.proofs.lemmas.Bool.{cases_eq}
use Rattle.il_machine.specs.declared.port.PortKey.{PortKey}
use Rattle.il_machine.specs.declared.header.Spot.{Spot}
use Rattle.il_machine.specs.declared.header.Spot.TheVariants.{TodoBack}
use Rattle.il_machine.specs.Headers.{find_header, is_for, put, put_at, same_key, seen, unchanged}
use Rattle.il_machine.specs.Sound.{Sound}
use Rattle.il_machine.specs.World.{HeaderRecord, World}
use Rattle.machine_laws.proofs.Listed.{done_in, first_in}
use Rattle.machine_laws.proofs.Replacing.{replaced_put}
use Rattle.play_model.specs.Moves.{Can, Move, moved, sent_back, sent_on, with_link}
use Rattle.play_model.specs.Network.{Filled, LinkState, headers_of}
use Rattle.play_model.proofs.Full.{move_headers}
use Rattle.play_model.specs.Play.{Play, made}
use Rattle.play_model.specs.Reached.{IsReached}
use Rattle.play_world_laws.specs.View.{LinkEnds, is_in, link_view}
use Rattle.play_world_laws.proofs.Counts.{keys_apart}
use Rattle.play_world_laws.proofs.Hands.{back_beside, hand_back, hand_on, on_beside}
use Rattle.play_world_laws.specs.Cast.{input_at, links_of, output_at}
use Rattle.play_world_laws.specs.Wiring.{ends_of, work_in}
use Rattle.play_world_laws.proofs.Flowing.{link_kept, links_apart, not_worked, put_links}
use Rattle.play_world_laws.specs.Changing.{is_joined_at}
use Rattle.play_world_laws.specs.PlayWorlds.{IsPlayWorld, PlayCast, end_of_link, left_to_make}
use Rattle.play_world_laws.proofs.Around.{sum_fewer}
use Rattle.play_world_laws.proofs.Linking.{link_changed}

on_closed : (q : List Filled) (y : LinkState) → (sent_on q y).closed ≡ y.closed
on_closed [] y = refl
on_closed (h ∷ q) y = refl

on_taken : (q : List Filled) (y : LinkState) → (sent_on q y).taken ≡ y.taken
on_taken [] y = refl
on_taken (h ∷ q) y = refl

pub left_keeps : (x : PlayCast) (p q : Play) (k : ℕ) → q.phase ≡ p.phase → q.change ≡ p.change → made q k ≡ made p k → left_to_make x.cast q k ≤ left_to_make x.cast p k
left_keeps x p q k e f h = let s : left_to_make x.cast q k ≡ left_to_make x.cast p k = rw (e, f, h) refl in omega arith

-- a header that is put elsewhere stays with its link
pub put_tunnelled : (x : PlayCast) (recent : ℕ) (p : Play) (w : World) → IsPlayWorld x recent p w → (key : PortKey) (spot : Spot) (change : HeaderRecord → HeaderRecord) (n : ℕ) (r : HeaderRecord) → ((y : HeaderRecord) → (change y).state.number ≡ y.state.number)
    → ((y : HeaderRecord) (at : PortKey) → is_for at (put_at key spot (change y)).state ≡ is_for at y.state) → find_header n w.headers ≡ Some r
    → (m : ℕ) (y : HeaderRecord) (s : Bool) (k : ℕ) → find_header m (put key spot n change w.headers) ≡ Some y → k < links_of x.cast → ((x.cast).layout).is_late k ≡ true → is_for (end_of_link x.cast s k) y.state ≡ true → is_joined_at (p.change k).step ≡ true
put_tunnelled x recent p w W key spot change n r keeps as_for f m y s k g b t h =
    let R = replaced_put key spot change keeps n w.headers r (W.sound).once f in
    elim (cases_eq m n) [
      | inl e ↦
          let z : Some (put_at key spot (change r)) ≡ Some y = sym R.here ∙ (ap (λ (j : ℕ). find_header j (put key spot n change w.headers)) (sym e) ∙ g) in
          let is : put_at key spot (change r) ≡ y = cc in
          W.tunnelled n r s k f b t (sym (as_for r (end_of_link x.cast s k)) ∙ (ap (λ (u : HeaderRecord). is_for (end_of_link x.cast s k) u.state) is ∙ h))
      | inr d ↦ W.tunnelled m y s k (sym (R.others m d) ∙ g) b t h
    ]

module _ (x : PlayCast) (recent : ℕ) (p : Play) (w : World) (W : IsPlayWorld x recent p w) (l : ℕ) (b : l < links_of x.cast) (change : LinkState → LinkState) (key to : PortKey) (n : ℕ) (ns : List ℕ)
    (e : (seen w.headers).done key ≡ n ∷ ns) where
  abbrev works : PortKey → List ℕ
  works = work_in w.components

  abbrev ks : List HeaderRecord
  ks = put to TodoBack n unchanged w.headers

  abbrev q : Play
  q = record p { flow = with_link l change p.flow }

  pub undrained : (k : ℕ) → is_in n (ends_of x.cast works p k).draining ≡ false
  undrained k = let I = first_in key w.headers ((seen w.headers).done key) ns n (done_in key w.headers (W.sound).once) e in not_worked w n I.header key (input_at x.cast k) W.sound I.found I.owner

  pub passes : ((y : LinkState) → (change y).closed ≡ y.closed) → ((y : LinkState) → (change y).taken ≡ y.taken)
      → link_view (ends_of x.cast works p l) ks ≡ change (link_view (ends_of x.cast works p l) w.headers)
      → ((k : ℕ) → k < links_of x.cast → k ≢ l → link_view (ends_of x.cast works p k) ks ≡ link_view (ends_of x.cast works p k) w.headers)
      → ((k : ℕ) → k < links_of x.cast → headers_of ((with_link l change p.flow).link k) ≡ headers_of ((p.flow).link k))
      → IsReached (x.cast).layout q → Sound (record w { headers = ks }) → IsPlayWorld x recent q (record w { headers = ks })
  passes c t here beside many R S =
      let I = first_in key w.headers ((seen w.headers).done key) ns n (done_in key w.headers (W.sound).once) e in
      let left = sum_fewer (links_of x.cast) (left_to_make x.cast q) (left_to_make x.cast p) (λ k h. left_keeps x p q k refl refl (many k h)) in
      link_changed x recent p w W l b change ks w.made (c ((p.flow).link l)) (t ((p.flow).link l)) here beside
      (put_links x.cast to TodoBack unchanged n I.header w.headers (λ y. refl) (W.sound).once I.found (link_kept x.cast I.header (put_at to TodoBack I.header) refl refl refl refl (λ k h. h) (W.headers n I.header I.found)) W.headers)
      (put_tunnelled x recent p w W to TodoBack unchanged n I.header (λ y. refl) (λ y at. refl) I.found)
      (let u = W.numbers in omega arith) R S

-- ---- the two moves

module _ (x : PlayCast) (recent : ℕ) (p : Play) (w : World) (W : IsPlayWorld x recent p w) (l : ℕ) (b : l < links_of x.cast) (n : ℕ) (ns : List ℕ) where
  apart : same_key (input_at x.cast l) (output_at x.cast l) ≡ false
  apart = let D = W.wired l b in keys_apart (input_at x.cast l) (output_at x.cast l) (λ e. D.apart (sym e))

  pub goes_on : (seen w.headers).done (output_at x.cast l) ≡ n ∷ ns → Can ((x.cast).layout).network p.flow (Move.Forward l) → IsReached (x.cast).layout (record p { flow = moved ((x.cast).layout).network (Move.Forward l) p.flow })
      → Sound (record w { headers = put (input_at x.cast l) TodoBack n unchanged w.headers })
      → IsPlayWorld x recent (record p { flow = moved ((x.cast).layout).network (Move.Forward l) p.flow }) (record w { headers = put (input_at x.cast l) TodoBack n unchanged w.headers })
  goes_on e C R S =
      let y : LinkEnds = ends_of x.cast (work_in w.components) p l in
      passes x recent p w W l b (λ z. sent_on z.sent z) (output_at x.cast l) (input_at x.cast l) n ns e (λ z. on_closed z.sent z) (λ z. on_taken z.sent z)
      (hand_on y w.headers n ns (W.sound).once apart e)
      (λ k h d. on_beside y w.headers n ns (W.sound).once apart (ends_of x.cast (work_in w.components) p k) e (links_apart x.cast (work_in w.components) p l k W.cast_is b h d)
      (undrained x recent p w W l b (λ z. sent_on z.sent z) (output_at x.cast l) (input_at x.cast l) n ns e k))
      (λ k h. move_headers ((x.cast).layout).network p.flow (Move.Forward l) C k h) R S

  pub comes_back : (seen w.headers).done (input_at x.cast l) ≡ n ∷ ns → Can ((x.cast).layout).network p.flow (Move.Back l) → IsReached (x.cast).layout (record p { flow = moved ((x.cast).layout).network (Move.Back l) p.flow })
      → Sound (record w { headers = put (output_at x.cast l) TodoBack n unchanged w.headers })
      → IsPlayWorld x recent (record p { flow = moved ((x.cast).layout).network (Move.Back l) p.flow }) (record w { headers = put (output_at x.cast l) TodoBack n unchanged w.headers })
  comes_back e C R S =
      let y : LinkEnds = ends_of x.cast (work_in w.components) p l in
      passes x recent p w W l b sent_back (input_at x.cast l) (output_at x.cast l) n ns e (λ z. refl) (λ z. refl)
      (hand_back y w.headers n ns (W.sound).once apart e)
      (λ k h d. back_beside y w.headers n ns (W.sound).once apart (ends_of x.cast (work_in w.components) p k) e (links_apart x.cast (work_in w.components) p l k W.cast_is b h d)
      (undrained x recent p w W l b sent_back (input_at x.cast l) (output_at x.cast l) n ns e k))
      (λ k h. move_headers ((x.cast).layout).network p.flow (Move.Back l) C k h) R S
