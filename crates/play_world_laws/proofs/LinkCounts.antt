-- All headers of a play: no more than its links have, so there is a block and a number for one more.
use Rattle.std.proofs.Common.{◌≡◌, ◌≢◌, ℕ, ◌<◌, ◌≤◌, Bool, true, false, List, [], ◌∷◌, Some, None, refl, sym, ◌∙◌, ap, ne_eqb, arith}
use Rattle.std.proofs.lemmas.Bool.{lt-leb}
use Rattle.il_machine.specs.declared.port.PortKey.{PortKey}
use Rattle.il_machine.specs.declared.header.HeaderState.{HeaderState}
use Rattle.il_machine.specs.Buffers.{has_no_block, has_no_number, is_block}
use Rattle.il_machine.specs.Headers.{Once, count_headers, find_header, is_for, seen, weight}
use Rattle.il_machine.specs.Look.{look}
use Rattle.il_machine.specs.World.{HeaderRecord, World}
use Rattle.machine_laws.proofs.Finding.{either, found_head, found_tail}
use Rattle.machine_laws.proofs.Listed.{weight_below}
use Rattle.play_model.specs.Progress.{all_headers, sum_to}
use Rattle.play_model.specs.Play.{Play, made}
use Rattle.play_world_laws.specs.Cast.{links_of, output_at}
use Rattle.play_world_laws.proofs.Counting.{sum_add, sum_less, sum_one}
use Rattle.play_world_laws.specs.Changing.{is_joined_at}
use Rattle.play_world_laws.specs.PlayWorlds.{IsPlayWorld, PlayCast, end_of_link, made_again}
use Rattle.play_world_laws.proofs.Around.{sum_fewer}
use Rattle.play_world_laws.proofs.ChangeCounts.{made_output}

-- each header is counted at its link
counted_at : (n : ℕ) (keys : ℕ → PortKey) (test : HeaderState → Bool) (rs : List HeaderRecord) → Once rs → ((m : ℕ) (r : HeaderRecord) → find_header m rs ≡ Some r → (l : ℕ) × (l < n) × (is_for (keys l) r.state ≡ true))
    → count_headers test rs ≤ sum_to n (λ l. count_headers (is_for (keys l)) rs)
counted_at n keys test [] o h = omega arith
counted_at n keys test (r ∷ rs) o h =
    let k = h r.state.number r (found_head r.state.number r rs refl) in
    let one : weight (is_for (keys k.0) r.state) ≡ 1 = rw k.2 refl in
    let s = sum_one n (λ l. weight (is_for (keys l) r.state)) k.0 k.1 in
    let below = weight_below (test r.state) in
    let a = sum_add n (λ l. weight (is_for (keys l) r.state)) (λ l. count_headers (is_for (keys l)) rs) in
    let i = counted_at n keys test rs o.1 (λ m y e.
    let apart : r.state.number ≢ m = λ z. let q : find_header m rs ≡ None = rw z at o.0 in absurd cc in
    h m y (found_tail m r rs apart ∙ e)) in
    omega arith

none_for : (key : PortKey) (rs : List HeaderRecord) → Once rs → ((m : ℕ) (r : HeaderRecord) → find_header m rs ≡ Some r → is_for key r.state ≡ false) → count_headers (is_for key) rs ≡ 0
none_for key [] o h = refl
none_for key (r ∷ rs) o h =
    let one : weight (is_for key r.state) ≡ 0 = rw (h r.state.number r (found_head r.state.number r rs refl)) refl in
    let i = none_for key rs o.1 (λ m y e.
    let apart : r.state.number ≢ m = λ z. let q : find_header m rs ≡ None = rw z at o.0 in absurd cc in
    h m y (found_tail m r rs apart ∙ e)) in
    omega arith

module _ (x : PlayCast) (recent : ℕ) (p : Play) (w : World) (W : IsPlayWorld x recent p w) where
  -- a link without its tunnel has none
  link_counted : (l : ℕ) → l < links_of x.cast → (seen w.headers).count (is_for (output_at x.cast l)) ≤ made p l
  link_counted l b = either (is_joined_at (p.change l).step)
      (λ t. let m = made_output x recent p w W l b t in omega arith)
      (λ f. either (((x.cast).layout).is_late l)
      (λ u.
      let none = none_for (output_at x.cast l) w.headers (W.sound).once (λ m r g. either (is_for (end_of_link x.cast true l) r.state)
      (λ i. let t = W.tunnelled m r true l g b u i in let z : true ≡ false = sym t ∙ f in absurd cc)
      (λ i. i)) in
      omega arith)
      (λ u.
      let s : (p.change l).step ≡ 0 = ((W.reached).changes l b).fixed u in
      let z : true ≡ false = sym (ap is_joined_at s) ∙ f in
      absurd cc))

  module _ (l : ℕ) (b : l < links_of x.cast) (few : made p l < (((x.cast).layout).network).count l) where
    pub blocks : has_no_block (seen w.headers) ≡ false
    blocks =
        let c = counted_at (links_of x.cast) (output_at x.cast) is_block w.headers (W.sound).once (λ n r f. let H = W.headers n r f in (H.link, H.below, (H.whole).for_link)) in
        let m = sum_fewer (links_of x.cast) (λ k. count_headers (is_for (output_at x.cast k)) w.headers) (made p) link_counted in
        let t = sum_less (links_of x.cast) (made p) (((x.cast).layout).network).count l b (omega arith) (λ k d. (W.reached).few k d) in
        let a = (W.cast_is).few in
        lt-leb 1024 ((seen w.headers).count is_block) (omega arith)

  made_twice : sum_to (links_of x.cast) (made_again x.cast) ≤ all_headers ((x.cast).layout).network
  made_twice = sum_fewer (links_of x.cast) (made_again x.cast) (((x.cast).layout).network).count (λ l b. either (((x.cast).layout).is_late l) (λ t. rw t (omega arith)) (λ f. rw f (omega arith)))

  pub numbered : has_no_number (look w) ≡ false
  numbered =
      let n = W.numbers in
      let a = (W.cast_is).few in
      let m = made_twice in
      ne_eqb w.made 18446744073709551615 (λ e. omega arith)
