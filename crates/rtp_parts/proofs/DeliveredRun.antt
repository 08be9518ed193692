-- A run over deliveries accepts each packet once.
use Rattle.std.proofs.Common.{◌≡◌, ℕ, zero, suc, ◌+◌, ◌*◌, ◌%◌, ◌<◌, ◌≤◌, max, nat_le, ◌==◌, ◌||◌, if◌then◌else◌, true, false, Bool, List, [], ◌∷◌, length, map, slice_index, refl, sym, ap, subst, ◌∙◌, arith, ◌⊎◌, inl, inr}
use Rattle.std.proofs.lemmas.Bool.{cases_lt}
use Rattle.std.specs.List.{range_with_len}
use Rattle.g711_law.specs.declared.companding.Companding.{Companding}
use Rattle.rtp_parts.specs.Sorting.{Numbered, Taken, nearest, judged, with_arrival, with_arrivals, has_number, sorted}
use Rattle.rtp_parts.specs.Deliveries.{AreDeliveries}
use Rattle.rtp_parts.proofs.SortedNumbers.{IsIn, NoneIs-found, Distinct, AllAre, AllAre-sorted, Rising-sorted, IsIn-sorted, rising_entries}
use Rattle.rtp_parts.proofs.DeliveredPackets.{piece, packet_of, AllBelow}

-- packet k as it is accepted
abbrev pub entry : List ℕ → ℕ → Numbered
entry samples k = record { number = 65536 + k; timestamp = 160 * k; payload = piece samples k }

-- m isn't 64 or more above a place
abbrev pub NearAll : ℕ → List ℕ → Type 0
NearAll m [] = Unit {0}
NearAll m (k ∷ places) = (m < k + 64) × NearAll m places

abbrev pub Ordered : List ℕ → Type 0
Ordered [] = Unit {0}
Ordered (k ∷ places) = NearAll k places × Ordered places

abbrev pub IsPlace : ℕ → List ℕ → Type 0
IsPlace k [] = ⊥
IsPlace k (j ∷ places) = (k ≡ j) ⊎ IsPlace k places

abbrev pub AllMost : ℕ → List Numbered → Type 0
AllMost m [] = Unit {0}
AllMost m (a ∷ rest) = (a.number ≤ 65536 + m) × AllMost m rest

pub record Running (samples : List ℕ) (count m : ℕ) (accepted : List Numbered) (places : List ℕ) : Type 0 where
  pub below : AllBelow count places
  pub near : NearAll m places
  pub ordered : Ordered places
  pub entries : AllAre (entry samples) 0 count accepted
  pub most : AllMost m accepted
  pub distinct : Distinct accepted
  pub each : (k : ℕ) → k < count → IsIn (entry samples k) accepted ⊎ IsPlace k places

pub record Finished (samples : List ℕ) (count : ℕ) (accepted : List Numbered) : Type 0 where
  pub entries : AllAre (entry samples) 0 count accepted
  pub distinct : Distinct accepted
  pub each : (k : ℕ) → k < count → IsIn (entry samples k) accepted

nearest_is : (m k : ℕ) → m < k + 64 → k ≤ m + 64 → nearest (65536 + m) (k % 65536) ≡ 65536 + k
nearest_is m k low high = omega (arith, low, high)

NearAll-place : (m k : ℕ) (places : List ℕ) → NearAll m places → IsPlace k places → m < k + 64
NearAll-place m k [] near h = absurd h
NearAll-place m k (j ∷ places) (first, near) h = elim h [
  | inl e ↦ omega (arith, first, e)
  | inr more ↦ NearAll-place m k places near more
]

NearAll-max : (m k : ℕ) (places : List ℕ) → NearAll m places → NearAll k places → NearAll (max m k) places
NearAll-max m k [] one other = tt
NearAll-max m k (j ∷ places) (first, one) (second, other) = (omega arith, NearAll-max m k places one other)

AllMost-higher : (m n : ℕ) (list : List Numbered) → m ≤ n → AllMost m list → AllMost n list
AllMost-higher m n [] le h = tt
AllMost-higher m n (a ∷ rest) le (first, most) = (omega arith, AllMost-higher m n rest le most)

AllMost-in : (samples : List ℕ) (m k : ℕ) (list : List Numbered) → AllMost m list → IsIn (entry samples k) list → k ≤ m
AllMost-in samples m k [] most h = absurd h
AllMost-in samples m k (a ∷ rest) (first, most) h = elim h [
  | inl e ↦ (let same : 65536 + k ≡ a.number = ap (λ (x : Numbered). x.number) e in omega arith)
  | inr more ↦ AllMost-in samples m k rest most more
]

-- the next packet isn't far above those before it, since none between them is missing
not_far : (samples : List ℕ) (count m k : ℕ) (accepted : List Numbered) (places : List ℕ) → Running samples count m accepted (k ∷ places) → k ≤ m + 64
not_far samples count m k accepted places run = elim (cases_lt (m + 64) k) [
  | inl far ↦ absurd (elim (run.each (m + 1) (let b = run.below.0 in omega arith)) [
    | inl there ↦ (let e = AllMost-in samples m (m + 1) accepted run.most there in omega arith)
    | inr later ↦ elim later [
      | inl e ↦ omega arith
      | inr more ↦ (let n = NearAll-place k (m + 1) places run.ordered.0 more in omega arith)
    ]
  ])
  | inr le ↦ le
]

-- an accepted one that has the number of packet k is that packet
found_first : (samples : List ℕ) (k j : ℕ) (a : Numbered) → a ≡ entry samples j → (a.number == 65536 + k) ≡ true → entry samples k ≡ a
found_first samples k j a is test =
    let same : 65536 + j ≡ a.number = sym (ap (λ (x : Numbered). x.number) is) in
    let number : a.number ≡ 65536 + k = grind (arith, test) in
    ap (entry samples) (let e : k ≡ j = omega (arith, same, number) in e) ∙ sym is

found_entry : (samples : List ℕ) (count k : ℕ) (list : List Numbered) → AllAre (entry samples) 0 count list → has_number (65536 + k) list ≡ true → IsIn (entry samples k) list
found_entry samples count k [] all h = cc
found_entry samples count k (a ∷ rest) ((j, low, high, is), all) h =
    elim (a.number == 65536 + k) as (λ (b : Bool). (a.number == 65536 + k) ≡ b → (b || has_number (65536 + k) rest) ≡ true → IsIn (entry samples k) (a ∷ rest)) [
      | true ↦ λ test other. inl (found_first samples k j a is test)
      | false ↦ λ test other. inr (found_entry samples count k rest all other)
    ] refl h

-- one delivery

taken_again : (samples : List ℕ) (companding : Companding) (taken : Taken) (m k : ℕ) → taken.greatest ≡ 65536 + m → m < k + 64 → k ≤ m + 64 → has_number (65536 + k) taken.accepted ≡ true → with_arrival taken (packet_of companding samples k) ≡ record taken { greatest = max taken.greatest (65536 + k); repeated = taken.repeated + 1 }
taken_again samples companding taken m k is low high found =
    let number : nearest taken.greatest (k % 65536) ≡ 65536 + k = ap (λ (n : ℕ). nearest n (k % 65536)) is ∙ nearest_is m k low high in
    let early : nat_le (65536 + k + 64) taken.greatest ≡ false = grind (arith, is, low) in
    let packet = packet_of companding samples k in
    let taken_late : Taken = record taken { greatest = max taken.greatest (65536 + k); late = taken.late + 1 } in
    let taken_repeated : Taken = record taken { greatest = max taken.greatest (65536 + k); repeated = taken.repeated + 1 } in
    let taken_new : Taken = record taken { greatest = max taken.greatest (65536 + k); accepted = entry samples k ∷ taken.accepted } in
    ap (λ (n : ℕ). judged taken n packet) number
    ∙ ap (λ (b : Bool). if b then taken_late else (if has_number (65536 + k) taken.accepted then taken_repeated else taken_new)) early
    ∙ ap (λ (b : Bool). if b then taken_repeated else taken_new) found

taken_new : (samples : List ℕ) (companding : Companding) (taken : Taken) (m k : ℕ) → taken.greatest ≡ 65536 + m → m < k + 64 → k ≤ m + 64 → has_number (65536 + k) taken.accepted ≡ false → with_arrival taken (packet_of companding samples k) ≡ record taken { greatest = max taken.greatest (65536 + k); accepted = entry samples k ∷ taken.accepted }
taken_new samples companding taken m k is low high found =
    let number : nearest taken.greatest (k % 65536) ≡ 65536 + k = ap (λ (n : ℕ). nearest n (k % 65536)) is ∙ nearest_is m k low high in
    let early : nat_le (65536 + k + 64) taken.greatest ≡ false = grind (arith, is, low) in
    let packet = packet_of companding samples k in
    let was_late : Taken = record taken { greatest = max taken.greatest (65536 + k); late = taken.late + 1 } in
    let was_repeated : Taken = record taken { greatest = max taken.greatest (65536 + k); repeated = taken.repeated + 1 } in
    let is_new : Taken = record taken { greatest = max taken.greatest (65536 + k); accepted = entry samples k ∷ taken.accepted } in
    ap (λ (n : ℕ). judged taken n packet) number
    ∙ ap (λ (b : Bool). if b then was_late else (if has_number (65536 + k) taken.accepted then was_repeated else is_new)) early
    ∙ ap (λ (b : Bool). if b then was_repeated else is_new) found

goes_on-again : (samples : List ℕ) (count m k : ℕ) (accepted : List Numbered) (places : List ℕ) → Running samples count m accepted (k ∷ places) → has_number (65536 + k) accepted ≡ true → Running samples count (max m k) accepted places
goes_on-again samples count m k accepted places run found = record {
  below = run.below.1;
  near = NearAll-max m k places run.near.1 run.ordered.0;
  ordered = run.ordered.1;
  entries = run.entries;
  most = AllMost-higher m (max m k) accepted (omega arith) run.most;
  distinct = run.distinct;
  each = λ j lt. elim (run.each j lt) as (λ _. IsIn (entry samples j) accepted ⊎ IsPlace j places) [
    | inl there ↦ inl there
    | inr later ↦ elim later as (λ _. IsIn (entry samples j) accepted ⊎ IsPlace j places) [
      | inl e ↦ inl (subst (λ (n : ℕ). IsIn (entry samples n) accepted) (sym e) (found_entry samples count k accepted run.entries found))
      | inr more ↦ inr more
    ]
  ];
}

goes_on-new : (samples : List ℕ) (count m k : ℕ) (accepted : List Numbered) (places : List ℕ) → Running samples count m accepted (k ∷ places) → has_number (65536 + k) accepted ≡ false → Running samples count (max m k) (entry samples k ∷ accepted) places
goes_on-new samples count m k accepted places run found = record {
  below = run.below.1;
  near = NearAll-max m k places run.near.1 run.ordered.0;
  ordered = run.ordered.1;
  entries = ((k, omega arith, (let b = run.below.0 in omega arith), refl), run.entries);
  most = (omega arith, AllMost-higher m (max m k) accepted (omega arith) run.most);
  distinct = (NoneIs-found (65536 + k) accepted found, run.distinct);
  each = λ j lt. elim (run.each j lt) as (λ _. IsIn (entry samples j) (entry samples k ∷ accepted) ⊎ IsPlace j places) [
    | inl there ↦ inl (inr there)
    | inr later ↦ elim later as (λ _. IsIn (entry samples j) (entry samples k ∷ accepted) ⊎ IsPlace j places) [
      | inl e ↦ inl (inl (ap (entry samples) e))
      | inr more ↦ inr more
    ]
  ];
}

higher : (greatest m k : ℕ) → greatest ≡ 65536 + m → max greatest (65536 + k) ≡ 65536 + max m k
higher greatest m k is = omega (arith, is)

pub run_finishes : (samples : List ℕ) (companding : Companding) (count m : ℕ) (taken : Taken) (places : List ℕ) → taken.greatest ≡ 65536 + m → Running samples count m taken.accepted places → Finished samples count (with_arrivals taken (map (packet_of companding samples) places)).accepted
run_finishes samples companding count m taken [] is run = record {
  entries = run.entries;
  distinct = run.distinct;
  each = λ k lt. elim (run.each k lt) as (λ _. IsIn (entry samples k) taken.accepted) [ inl there ↦ there | inr later ↦ absurd later ];
}
run_finishes samples companding count m taken (k ∷ places) is run =
    let low : m < k + 64 = run.near.0 in
    let high = not_far samples count m k taken.accepted places run in
    let rest = map (packet_of companding samples) places in
    elim (has_number (65536 + k) taken.accepted) as (λ (b : Bool). has_number (65536 + k) taken.accepted ≡ b → Finished samples count (with_arrivals (with_arrival taken (packet_of companding samples k)) rest).accepted) [
      | true ↦ λ found.
          let next : Taken = record taken { greatest = max taken.greatest (65536 + k); repeated = taken.repeated + 1 } in
          subst (λ (t : Taken). Finished samples count (with_arrivals t rest).accepted) (sym (taken_again samples companding taken m k is low high found))
          (run_finishes samples companding count (max m k) next places (higher taken.greatest m k is) (goes_on-again samples count m k taken.accepted places run found))
      | false ↦ λ found.
          let next : Taken = record taken { greatest = max taken.greatest (65536 + k); accepted = entry samples k ∷ taken.accepted } in
          subst (λ (t : Taken). Finished samples count (with_arrivals t rest).accepted) (sym (taken_new samples companding taken m k is low high found))
          (run_finishes samples companding count (max m k) next places (higher taken.greatest m k is) (goes_on-new samples count m k taken.accepted places run found))
    ] refl

pub finished-sorted : (samples : List ℕ) (count : ℕ) (accepted : List Numbered) → Finished samples count accepted → sorted accepted ≡ map (entry samples) (range_with_len 0 count)
finished-sorted samples count accepted done =
    rising_entries (entry samples) 65536 0 count (sorted accepted) (λ k. refl) (Rising-sorted accepted done.distinct)
    (AllAre-sorted (entry samples) 0 count accepted done.entries)
    (λ k low high. IsIn-sorted (entry samples k) accepted (done.each k (omega arith)))

-- The deliveries, one after another

pub places-below : (count : ℕ) (places : List ℕ) → ((i : ℕ) → i < length places → slice_index places i < count) → AllBelow count places
places-below count [] h = tt
places-below count (k ∷ places) h = (h 0 (omega arith), places-below count places (λ i lt. h (suc i) (omega arith)))

near-all : (m : ℕ) (places : List ℕ) → ((i : ℕ) → i < length places → m < slice_index places i + 64) → NearAll m places
near-all m [] h = tt
near-all m (k ∷ places) h = (h 0 (omega arith), near-all m places (λ i lt. h (suc i) (omega arith)))

places-ordered : (places : List ℕ) → ((i j : ℕ) → i < j → j < length places → slice_index places i < slice_index places j + 64) → Ordered places
places-ordered [] h = tt
places-ordered (k ∷ places) h =
    (near-all k places (λ j lt. h 0 (suc j) (omega arith) (omega arith)), places-ordered places (λ i j ij lt. h (suc i) (suc j) (omega arith) (omega arith)))

index-place : (k : ℕ) (places : List ℕ) (i : ℕ) → i < length places → slice_index places i ≡ k → IsPlace k places
index-place k [] i lt is = absurd (omega arith)
index-place k (j ∷ places) zero lt is = inl (sym is)
index-place k (j ∷ places) (suc i) lt is = inr (index-place k places i (omega arith) is)

pub deliveries-start : (samples : List ℕ) (count first : ℕ) (places : List ℕ) → AreDeliveries count (first ∷ places) → first < 65536 → Running samples count (first % 65536) [] (first ∷ places)
deliveries-start samples count first places are small =
    let same : first % 65536 ≡ first = omega arith in
    let ordered = places-ordered (first ∷ places) are.near in
    record {
      below = places-below count (first ∷ places) are.packets;
      near = (omega (arith, same), subst (λ (m : ℕ). NearAll m places) (sym same) ordered.0);
      ordered = ordered;
      entries = tt;
      most = tt;
      distinct = tt;
      each = λ k lt. (let at = are.each k lt in inr (index-place k (first ∷ places) at.0 at.1 at.2));
    }

-- packet 0 is delivered, so the first delivery is one of the first 64
pub first-early : (count first : ℕ) (places : List ℕ) → 0 < count → AreDeliveries count (first ∷ places) → first < 64
first-early count first places some are =
    let at = are.each 0 some in
    elim (index-place 0 (first ∷ places) at.0 at.1 at.2) [
      | inl e ↦ omega arith
      | inr later ↦ (let n = NearAll-place first 0 places (places-ordered (first ∷ places) are.near).0 later in omega arith)
    ]
