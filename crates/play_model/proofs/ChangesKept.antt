-- What is always so of a link's change, over acts that don't change how far it is.
use Rattle.std.proofs.Common.{◌≡◌, ◌≢◌, ◌⊎◌, inl, inr, ℕ, ◌<◌, ◌≤◌, true, false, [], arith}
use Rattle.play_model.specs.Network.{Flow, headers_of, queue}
use Rattle.play_model.proofs.Queues.{either}
use Rattle.play_model.specs.Changes.{Change, IsHalfChanged, HasAllHeaders, IsEmptied, IsSteadyPort}
use Rattle.play_model.specs.Play.{Layout, Play}
use Rattle.play_model.specs.Acts.{with_stage}
use Rattle.play_model.specs.Reached.{IsChanging}

-- a link that isn't of a late source is as it began, and so is every link before Executing is sent
pub unsent : (w : Layout) (p : Play) (l : ℕ) (k : Change) → IsChanging w p l k → k.step ≤ 2 → (k.output ≡ 0) × (k.input ≡ 0)
unsent w p l k C low = ((C.order).output_unsent low, (C.order).input_unsent (omega arith))

-- after the second Idle was begun a link's ports are as they began, or Steady again
pub later_ports : (w : Layout) (p : Play) (l : ℕ) (k : Change) → IsChanging w p l k → 3 ≤ p.phase → ((k.output ≡ 8) × (k.input ≡ 8)) ⊎ ((k.step ≡ 0) × (k.output ≡ 0) × (k.input ≡ 0))
later_ports w p l k C late = either (w.is_late l)
    (λ t. let c = C.over late t in inl (c.1, c.2))
    (λ f. let z = C.fixed f in let u = unsent w p l k C (omega arith) in inr (z, u.0, u.1))

pub later_half : (w : Layout) (p : Play) (l : ℕ) (k : Change) → IsChanging w p l k → 3 ≤ p.phase → IsHalfChanged k → ⊥
later_half w p l k C late h = let two = (C.half h).0 in omega arith

pub later_emptied : (w : Layout) (p : Play) (l : ℕ) (k : Change) → IsChanging w p l k → 3 ≤ p.phase → IsEmptied k → ⊥
later_emptied w p l k C late h = elim (later_ports w p l k C late) [
  | inl e ↦ grind (arith, e, h)
  | inr e ↦ grind (arith, e, h)
]

pub later_whole : (w : Layout) (p : Play) (l : ℕ) (k : Change) → IsChanging w p l k → 3 ≤ p.phase → HasAllHeaders k
later_whole w p l k C late = elim (later_ports w p l k C late) [
  | inl e ↦ inr (inl (let a = e.0 in omega arith))
  | inr e ↦ inl (let a = e.1 in omega arith, let b = e.2 in omega arith)
]

-- from then on nothing of the play but its phase counts
pub later_changing : (w : Layout) (p q : Play) (l : ℕ) (k : Change) → IsChanging w p l k → 3 ≤ p.phase → 3 ≤ q.phase → IsChanging w q l k
later_changing w p q l k C late on = record {
  order = C.order;
  fixed = C.fixed;
  early = λ h. absurd (omega arith);
  over = λ _. C.over late;
  half = λ h. absurd (later_half w p l k C late h);
  emptied = λ h. absurd (later_emptied w p l k C late h);
  quiet = λ t h. absurd (let c = C.over late t in let e = c.1 in omega arith);
}

pub stage_changing : (w : Layout) (p : Play) (c n l : ℕ) (k : Change) → c < (w.network).components → p.stage c ≢ 4 → IsChanging w p l k → IsChanging w (with_stage c n p) l k
stage_changing w p c n l k b e C = record {
  order = C.order;
  fixed = C.fixed;
  early = C.early;
  over = C.over;
  half = λ h. absurd (e ((C.half h).1 c b));
  emptied = C.emptied;
  quiet = C.quiet;
}

pub flow_changing : (w : Layout) (p : Play) (s : Flow) (l : ℕ) (k : Change) → (IsEmptied k → headers_of (s.link l) ≡ 0) →
    (w.is_late l ≡ true → k.output < 7 → (queue (s.link l) ≡ []) × (s.ended ((w.network).giver l) ≡ false)) → IsChanging w p l k → IsChanging w (record p { flow = s }) l k
flow_changing w p s l k empty quiet C = record {
  order = C.order;
  fixed = C.fixed;
  early = C.early;
  over = C.over;
  half = C.half;
  emptied = empty;
  quiet = quiet;
}

-- ---- where no link is half changed

pub steady_unsent : (n : ℕ) → n ≡ 0 → IsSteadyPort n
steady_unsent n e = inl (omega arith)

pub steady_told : (n : ℕ) → n ≡ 8 → IsSteadyPort n
steady_told n e = inr (omega arith)
