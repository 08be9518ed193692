-- Every reached play has acts that lead it to its end; and there is one, of a source and a sink.
use Rattle.std.proofs.Common.{◌≡◌, inl, inr, ℕ, zero, suc, ◌<◌, ◌≤◌, Bool, false, not, nat_eq, List, [], ◌∷◌, refl, sym, ap, eqb-true, arith}
use Rattle.std.proofs.lemmas.Bool.{eqb-false}
use Rattle.play_model.proofs.Queues.{either, both}
use Rattle.play_model.specs.Play.{Layout, IsLayout, Play}
use Rattle.play_model.specs.Acts.{Act, CanActs, acted, all_acted}
use Rattle.play_model.specs.Reached.{IsReached, IsOver, acts_left, IsBegun, a_link, a_play}
use Rattle.play_model.proofs.Enabled.{enabled}
use Rattle.play_model.proofs.Handing.{act_reaches}
use Rattle.play_model.proofs.Less.{act_counts}

to_the_end : (w : Layout) (m : ℕ) (p : Play) → acts_left w p ≤ m → IsReached w p → (acts : List Act) × CanActs w p acts × IsOver w (all_acted w acts p)
to_the_end w zero p le R = elim (enabled w p R) [
  | inl v ↦ absurd (let l = act_counts w p v.0 R v.1 in omega arith)
  | inr over ↦ ([], tt, over)
]
to_the_end w (suc m) p le R = elim (enabled w p R) [
  | inl v ↦
      let l = act_counts w p v.0 R v.1 in
      let rest = to_the_end w m (acted w v.0 p) (omega arith) (act_reaches w p v.0 R v.1) in
      (v.0 ∷ rest.0, (v.1, rest.1), rest.2)
  | inr over ↦ ([], tt, over)
]

pub play_ends : (w : Layout) (p : Play) → IsReached w p → (acts : List Act) × CanActs w p acts × IsOver w (all_acted w acts p)
play_ends w p R = to_the_end w (acts_left w p) p (omega arith) R

-- ---- the one of a source and a sink

sink_number : (c : ℕ) → c < 2 → nat_eq c 0 ≡ false → c ≡ 1
sink_number c b f = let d = eqb-false _ _ f in omega arith

source_number : (c : ℕ) → not (nat_eq c 0) ≡ false → c ≡ 0
source_number c f = either (nat_eq c 0) (λ t. eqb-true _ _ t) (λ g. both (not (nat_eq c 0)) (ap not g) f)

a_layout : (late : Bool) → IsLayout (a_link late)
a_layout late = record {
  network = record {
    order = λ l b. omega arith;
    inside = λ l b. omega arith;
    count = λ l b. omega arith;
    fits = λ l b. omega arith;
    unfed = λ l b. refl;
    frames = λ l b. omega arith;
    longest = λ c b f. (0, record { below = omega arith; taken_by = sym (sink_number c b f) }, refl);
  };
  outputs = λ c b f. (0, record { below = omega arith; given_by = sym (source_number c f) });
}

pub a_play_begins : (late : Bool) → IsBegun (a_link late) a_play
a_play_begins late = record {
  layout = a_layout late;
  phase = refl;
  stage = λ c. refl;
  told = λ c. refl;
  opening = record { done = λ c. refl; going = λ c. refl; empty = λ l. refl; taken = λ l. refl; open_ = λ l. refl };
  none = λ l. omega arith;
  unchanged = λ l. refl;
}
