-- A change of a late source's link keeps its order.
use Rattle.std.proofs.Common.{◌≡◌, ◌≢◌, ◌⊎◌, inl, inr, ℕ, ◌+◌, ◌<◌, ◌≤◌, Bool, true, false, ◌||◌, if◌then◌else◌, nat_eq, refl, sym, subst, eqb-true, arith}
use Rattle.std.proofs.lemmas.Bool.{eqb-false}
use Rattle.play_model.proofs.Queues.{either}
use Rattle.play_model.specs.Changes.{Change, port_at, IsHalfChanged, HasCommand, IsPortDue, HasCompletion, told_on, conducted, port_on, IsInOrder, HasAllHeaders, IsEmptied}
use Rattle.play_model.specs.Play.{Play}
use Rattle.play_model.specs.Acts.{with_change}

pub change_case : (P : ℕ → Change → Type 0) (l : ℕ) (f : Change → Change) (p : Play) (k : ℕ) → (k ≡ l → P l (f (p.change l))) → (k ≢ l → P k (p.change k)) → P k ((with_change l f p).change k)
change_case P l f p k same apart = either (nat_eq k l)
    (λ t. let e : k ≡ l = eqb-true _ _ t in rw t (subst (λ (j : ℕ). P j (f (p.change j))) (sym e) (same e)))
    (λ g. rw g (apart (eqb-false _ _ g)))

pub told_order : (k : Change) → IsInOrder k → k.step ≤ 1 → IsInOrder (told_on k)
told_order k O low =
    let a = O.output_unsent (omega arith) in
    let b = O.input_unsent (omega arith) in
    record {
      steps = omega arith;
      outputs = O.outputs;
      inputs = O.inputs;
      output_unsent = λ _. a;
      input_unsent = λ _. b;
      output_disabled = λ h. absurd (omega (arith, h));
      input_disabled = λ h. absurd (omega (arith, h));
      told = λ h. absurd (omega (arith, h));
      output_waits = λ _. omega arith;
      input_waits = λ _. omega arith;
      output_enabled = λ h. absurd (omega (arith, h));
      input_enabled = λ h. absurd (omega (arith, h));
    }

-- ---- the conductor's acts: what they send

pub record Conducted (k j : Change) : Type 0 where
  pub step : j.step ≡ k.step + 1
  pub output : (((k.step ≡ 2) ⊎ (k.step ≡ 8)) × (j.output ≡ k.output + 1)) ⊎ ((k.step ≢ 2) × (k.step ≢ 8) × (j.output ≡ k.output))
  pub input : (((k.step ≡ 3) ⊎ (k.step ≡ 9)) × (j.input ≡ k.input + 1)) ⊎ ((k.step ≢ 3) × (k.step ≢ 9) × (j.input ≡ k.input))

sent_if : (s a b n m : ℕ) → m ≡ (if nat_eq s a || nat_eq s b then n + 1 else n) → (((s ≡ a) ⊎ (s ≡ b)) × (m ≡ n + 1)) ⊎ ((s ≢ a) × (s ≢ b) × (m ≡ n))
sent_if s a b n m e = either (nat_eq s a)
    (λ t. inl (inl (eqb-true _ _ t), rw t at e))
    (λ f. either (nat_eq s b)
    (λ t. inl (inr (eqb-true _ _ t), rw (f, t) at e))
    (λ g. inr (eqb-false _ _ f, eqb-false _ _ g, rw (f, g) at e)))

pub conducted_is : (k : Change) → Conducted k (conducted k)
conducted_is k = record { step = refl; output = sent_if k.step 2 8 k.output _ refl; input = sent_if k.step 3 9 k.input _ refl }

pub conducted_in_order : (k j : Change) → IsInOrder k → Conducted k j → 2 ≤ k.step → k.step < 10 → (k.step ≡ 4 → (k.output ≡ 4) × (k.input ≡ 4)) → IsInOrder j
conducted_in_order k j O C low high both = record {
  steps = let a = C.step in omega arith;
  outputs = grind (arith, C.step, C.output, O.output_unsent, O.output_waits, O.outputs);
  inputs = grind (arith, C.step, C.input, O.input_unsent, O.input_waits, O.inputs);
  output_unsent = λ h. let a = C.step in absurd (omega (arith, h));
  input_unsent = λ h. grind (arith, C.step, C.input, O.input_unsent);
  output_disabled = λ h. grind (arith, C.step, C.output, O.output_disabled);
  input_disabled = λ h. grind (arith, C.step, C.input, O.input_disabled);
  told = λ h. grind (arith, C.step, C.output, C.input, O.told, both);
  output_waits = λ h. grind (arith, C.step, C.output, O.output_waits, O.output_unsent);
  input_waits = λ h. grind (arith, C.step, C.input, O.input_waits, O.input_unsent);
  output_enabled = λ h. grind (arith, C.step, C.output, O.output_enabled, O.told);
  input_enabled = λ h. grind (arith, C.step, C.input, O.input_enabled, O.told);
}

-- what was sent to a port before it was sent the next, and a port that is disabled or Steady, are as before
pub conducted_whole : (k j : Change) → IsInOrder k → Conducted k j → 2 ≤ k.step → (k.step ≡ 4 → (k.output ≡ 4) × (k.input ≡ 4)) → HasAllHeaders j → HasAllHeaders k
conducted_whole k j O C low both (inl h) = elim C.output [
  | inl a ↦ grind (arith, a, h, C.input, O.output_unsent, O.input_unsent, O.told, O.output_waits, low)
  | inr a ↦ grind (arith, a, h, C.input, O.output_unsent, O.input_unsent, O.told, O.output_disabled, O.input_waits, low)
]
conducted_whole k j O C low both (inr (inl h)) = grind (arith, h, C.output, O.output_unsent, O.output_waits)
conducted_whole k j O C low both (inr (inr h)) = grind (arith, h, C.input, O.input_unsent, O.input_waits)

pub conducted_emptied : (k j : Change) → IsInOrder k → Conducted k j → IsEmptied j → IsEmptied k
conducted_emptied k j O C (inl h) = grind (arith, h, C.output, O.output_unsent, O.told)
conducted_emptied k j O C (inr h) = grind (arith, h, C.input, O.input_unsent, O.told)

pub conducted_later : (k j : Change) → Conducted k j → k.output ≤ j.output
conducted_later k j C = elim C.output [ inl a ↦ let b = a.1 in omega arith | inr a ↦ let b = a.2 in omega arith ]

pub conducted_later_input : (k j : Change) → Conducted k j → k.input ≤ j.input
conducted_later_input k j C = elim C.input [ inl a ↦ let b = a.1 in omega arith | inr a ↦ let b = a.2 in omega arith ]

pub begun_half : (k : Change) → IsInOrder k → 3 ≤ k.step → k.step < 10 → IsHalfChanged k
begun_half k O low high = (low, inr (let a = O.input_waits (omega arith) in omega arith))

-- ---- a port that goes on

-- a command was sent to it, and isn't told yet
abbrev pub IsPortGoing : ℕ → Type 0
IsPortGoing n = ((1 ≤ n) × (n ≤ 3)) ⊎ ((5 ≤ n) × (n ≤ 7))

pub command_goes : (n : ℕ) → HasCommand n → IsPortGoing n
command_goes n c = grind (arith, c)

pub due_goes : (made_ count n : ℕ) → IsPortDue made_ count n → IsPortGoing n
due_goes made_ count n (inl c) = let e = c.0 in inl (omega arith, omega arith)
due_goes made_ count n (inr c) = let e = c.0 in inr (omega arith, omega arith)

pub completion_goes : (n : ℕ) → HasCompletion n → IsPortGoing n
completion_goes n c = grind (arith, c)

pub port_half : (out : Bool) (k : Change) → IsInOrder k → IsPortGoing (port_at out k) → IsHalfChanged k
port_half true k O g = (grind (arith, g, O.output_unsent), inl (grind (arith, g)))
port_half false k O g = (grind (arith, g, O.input_unsent), inr (grind (arith, g)))

pub port_order : (out : Bool) (k : Change) → IsInOrder k → IsPortGoing (port_at out k) → IsInOrder (port_on out k)
port_order true k O g = record {
  steps = O.steps;
  outputs = grind (arith, g);
  inputs = O.inputs;
  output_unsent = λ h. grind (arith, g, O.output_unsent);
  input_unsent = O.input_unsent;
  output_disabled = λ h. omega arith;
  input_disabled = O.input_disabled;
  told = λ h. let t = O.told h in let a = t.0 in (omega arith, t.1);
  output_waits = λ h. let a = O.output_waits h in grind (arith, g);
  input_waits = O.input_waits;
  output_enabled = λ h. let a = O.output_enabled h in omega arith;
  input_enabled = O.input_enabled;
}
port_order false k O g = record {
  steps = O.steps;
  outputs = O.outputs;
  inputs = grind (arith, g);
  output_unsent = O.output_unsent;
  input_unsent = λ h. grind (arith, g, O.input_unsent);
  output_disabled = O.output_disabled;
  input_disabled = λ h. omega arith;
  told = λ h. let t = O.told h in let a = t.1 in (t.0, omega arith);
  output_waits = O.output_waits;
  input_waits = λ h. let a = O.input_waits h in grind (arith, g);
  output_enabled = O.output_enabled;
  input_enabled = λ h. let a = O.input_enabled h in omega arith;
}

pub port_later : (out : Bool) (k : Change) → k.output ≤ (port_on out k).output
port_later true k = omega arith
port_later false k = omega arith

-- a port that becomes disabled or Steady is due to
pub port_emptied : (out : Bool) (k : Change) → (port_at out k ≢ 2) → (port_at out k ≢ 4) → IsEmptied (port_on out k) → IsEmptied k
port_emptied true k a b (inl h) = inl (grind (arith, h, a))
port_emptied true k a b (inr h) = inr h
port_emptied false k a b (inl h) = inl h
port_emptied false k a b (inr h) = inr (grind (arith, h, a))

pub port_whole : (out : Bool) (k : Change) → (port_at out k ≢ 0) → (port_at out k ≢ 6) → HasAllHeaders (port_on out k) → HasAllHeaders k
port_whole true k a b (inl h) = absurd (a (let x = h.0 in omega arith))
port_whole true k a b (inr (inl h)) = inr (inl (grind (arith, h, b)))
port_whole true k a b (inr (inr h)) = inr (inr h)
port_whole false k a b (inl h) = absurd (a (let x = h.1 in omega arith))
port_whole false k a b (inr (inl h)) = inr (inl h)
port_whole false k a b (inr (inr h)) = inr (inr (grind (arith, h, b)))

-- a port that waits for the headers to be made keeps the link from being whole, as the other one does
pub enabling_step : (k : Change) → IsInOrder k → (6 ≤ k.output) ⊎ (6 ≤ k.input) → 9 ≤ k.step
enabling_step k O (inl h) = grind (arith, h, O.output_waits)
enabling_step k O (inr h) = grind (arith, h, O.input_waits)

-- a port that is Disabling: the tunnel isn't dropped yet, and the link isn't whole
pub disabling_step : (out : Bool) (k : Change) → IsInOrder k → port_at out k ≡ 2 → (3 ≤ k.step) × (k.step ≤ 4)
disabling_step true k O e = (grind (arith, e, O.output_unsent), grind (arith, e, O.told))
disabling_step false k O e = (grind (arith, e, O.input_unsent), grind (arith, e, O.told))

pub disabling_part : (out : Bool) (k : Change) → IsInOrder k → port_at out k ≡ 2 → HasAllHeaders k → ⊥
disabling_part out k O e W =
    let s = disabling_step out k O e in
    let low = s.1 in
    let a = O.output_waits (omega arith) in
    let b = O.input_waits (omega arith) in
    elim W [
      | inl h ↦ two out k e h
      | inr (inl h) ↦ omega arith
      | inr (inr h) ↦ omega arith
    ]
  where
    two : (out : Bool) (k : Change) → port_at out k ≡ 2 → (k.output ≤ 1) × (k.input ≤ 1) → ⊥
    two true k e h = let a = h.0 in omega arith
    two false k e h = let a = h.1 in omega arith
