-- How a play goes on: nothing that was told is lost, and a change goes on by the conductor's acts alone once they are begun.
use Rattle.std.proofs.Common.{◌≡◌, inl, inr, ℕ, ◌+◌, ◌≤◌, Bool, true, false, if◌then◌else◌, List, [], ◌∷◌, None, refl, sym, ◌∙◌, subst, arith}
use Rattle.std.proofs.lemmas.Bool.{cases_eq}
use Rattle.play_model.specs.Acts.{Act, CanAct, CanActs, acted, all_acted, with_change, with_stage}
use Rattle.play_model.specs.Acts.Act.{Begin, Send, Run, Happen, Tell, TellEnd, Supply, Release, HandOver, HandBack, HandUnused, Announce, TellSettings, Conduct, RunPort, HappenPort, TellPort, Step}
use Rattle.play_model.specs.Changes.{Change, conducted, port_at, port_on, told_on}
use Rattle.play_model.specs.Play.{Layout, Play}
use Rattle.play_world_laws.specs.Happenings.{AreHappenings}
use Rattle.play_history_laws.specs.Following.{GoesTo, IsLater, IsLeft}
use Rattle.play_history_laws.specs.Order.{Cursor, one_more}
use Rattle.play_history_laws.proofs.Following.{change_else, made_here}
use Rattle.play_history_laws.proofs.Keeping.{IsWorkers, KeepsAsked, at_one, workers_happening}

pub later_itself : (p : Play) → IsLater p p
later_itself p = record { phase = refl; stage = λ c. omega arith; told = λ c t. t; step = λ l. omega arith; ports = λ o l. omega arith }

pub later_through : (p m q : Play) → IsLater p m → IsLater m q → IsLater p q
later_through p m q A B = record {
  phase = B.phase ∙ A.phase;
  stage = λ c. omega (arith, A.stage c, B.stage c);
  told = λ c t. B.told c (A.told c t);
  step = λ l. omega (arith, A.step l, B.step l);
  ports = λ o l. omega (arith, A.ports o l, B.ports o l);
}

later_stage : (p : Play) (d t : ℕ) → p.stage d ≤ t → IsLater p (with_stage d t p)
later_stage p d t m = record {
  phase = refl;
  stage = λ c. at_one (λ (n : ℕ). p.stage c ≤ n) c d t (p.stage c) (λ e. subst (λ (k : ℕ). p.stage k ≤ t) (sym e) m) (λ n. omega arith);
  told = λ c t. t;
  step = λ l. omega arith;
  ports = λ o l. omega arith;
}

later_change : (p : Play) (l : ℕ) (f : Change → Change) → ((k : Change) → k.step ≤ (f k).step) → ((o : Bool) (k : Change) → port_at o k ≤ port_at o (f k)) → IsLater p (with_change l f p)
later_change p l f s r = record {
  phase = refl;
  stage = λ c. omega arith;
  told = λ c t. t;
  step = λ j. at_one (λ (z : Change). (p.change j).step ≤ z.step) j l (f (p.change j)) (p.change j) (λ e. s (p.change j)) (λ n. omega arith);
  ports = λ o j. at_one (λ (z : Change). port_at o (p.change j) ≤ port_at o z) j l (f (p.change j)) (p.change j) (λ e. r o (p.change j)) (λ n. omega arith);
}

told_step : (k : Change) → k.step ≤ (told_on k).step
told_step k = omega arith

told_port : (o : Bool) (k : Change) → port_at o k ≤ port_at o (told_on k)
told_port true k = omega arith
told_port false k = omega arith

port_step : (s : Bool) (k : Change) → k.step ≤ (port_on s k).step
port_step true k = omega arith
port_step false k = omega arith

port_port : (s o : Bool) (k : Change) → port_at o k ≤ port_at o (port_on s k)
port_port true true k = omega arith
port_port true false k = omega arith
port_port false true k = omega arith
port_port false false k = omega arith

raised : (b : Bool) (n : ℕ) → n ≤ (if b then n + 1 else n)
raised true n = omega arith
raised false n = omega arith

conducted_port : (o : Bool) (k : Change) → port_at o k ≤ port_at o (conducted k)
conducted_port true k = raised _ k.output
conducted_port false k = raised _ k.input

-- each act but that a StateSet is begun
abbrev pub IsNoBegin : Act → Type 0
IsNoBegin Begin = ⊥
IsNoBegin _ = Unit {0}

pub later_by : (w : Layout) (p : Play) (a : Act) → IsNoBegin a → CanAct w p a → IsLater p (acted w a p)
later_by w p Begin O C = absurd O
later_by w p (Send c) O C = later_stage p c 1 (let e = C.1 in omega (arith, e))
later_by w p (Run c) O C = later_stage p c 2 (let e = C.1 in omega (arith, e))
later_by w p (Happen c) O C = let L = later_stage p c 3 (let e = C.1 in omega (arith, e)) in record { phase = L.phase; stage = L.stage; told = L.told; step = L.step; ports = L.ports }
later_by w p (Tell c) O C = later_stage p c 4 (let e = C.1 in omega (arith, e))
later_by w p (TellEnd c) O C = record { phase = refl; stage = λ j. omega arith; told = λ j t. at_one (λ (b : Bool). b ≡ true) j c true (p.told j) (λ e. refl) (λ n. t); step = λ l. omega arith; ports = λ o l. omega arith }
later_by w p (Supply l) O C = record { phase = refl; stage = λ c. omega arith; told = λ c t. t; step = λ l. omega arith; ports = λ o l. omega arith }
later_by w p (Release l) O C = record { phase = refl; stage = λ c. omega arith; told = λ c t. t; step = λ l. omega arith; ports = λ o l. omega arith }
later_by w p (HandOver l) O C = record { phase = refl; stage = λ c. omega arith; told = λ c t. t; step = λ l. omega arith; ports = λ o l. omega arith }
later_by w p (HandBack l) O C = record { phase = refl; stage = λ c. omega arith; told = λ c t. t; step = λ l. omega arith; ports = λ o l. omega arith }
later_by w p (HandUnused l) O C = record { phase = refl; stage = λ c. omega arith; told = λ c t. t; step = λ l. omega arith; ports = λ o l. omega arith }
later_by w p (Announce l) O C = later_change p l told_on told_step told_port
later_by w p (TellSettings l) O C = later_change p l told_on told_step told_port
later_by w p (Conduct l) O C = later_change p l conducted (λ k. omega arith) conducted_port
later_by w p (RunPort l s) O C = later_change p l (port_on s) (port_step s) (port_port s)
later_by w p (HappenPort l s) O C = later_change p l (port_on s) (port_step s) (port_port s)
later_by w p (TellPort l s) O C = later_change p l (port_on s) (port_step s) (port_port s)
later_by w p (Step c n last) O C = record { phase = refl; stage = λ c. omega arith; told = λ c t. t; step = λ l. omega arith; ports = λ o l. omega arith }

-- an act that nobody asks for
own_begins : (a : Act) → IsWorkers a → IsNoBegin a
own_begins Begin O = absurd O
own_begins _ O = tt

pub later_own : (w : Layout) (p : Play) (a : Act) → IsWorkers a → CanAct w p a → IsLater p (acted w a p)
later_own w p a O C = later_by w p a (own_begins a O) C

pub later_happening : (w : Layout) (p : Play) (acts : List Act) → CanActs w p acts → AreHappenings acts → IsLater p (all_acted w acts p)
later_happening w p [] C H = later_itself p
later_happening w p (a ∷ acts) C H = later_through p (acted w a p) (all_acted w acts (acted w a p)) (later_own w p a (workers_happening a H.0) C.0) (later_happening w (acted w a p) acts C.1 H.1)

-- where the next StateSet is begun in both
later_begun : (w : Layout) (p q : Play) → IsLater p q → IsLater (acted w Begin p) (acted w Begin q)
later_begun w p q L = record { phase = let e = L.phase in omega arith; stage = λ c. omega arith; told = L.told; step = L.step; ports = L.ports }

-- ---- a change of which no act is made

pub left_itself : (k : Change) → IsLeft k k
left_itself k = record { few = λ b. b; more = λ b. refl }

left_through : (k m j : Change) → IsLeft k m → IsLeft m j → IsLeft k j
left_through k m j A B = record { few = λ b. B.few (A.few b); more = λ b. let e = A.more b in B.more (omega (arith, b, e)) ∙ e }

-- ---- from cursor to cursor

pub goes_nowhere : (w : Layout) (k : Cursor) (recent : ℕ) (p : Play) → GoesTo w k recent p k recent p
goes_nowhere w k recent p = record {
  phases = omega arith;
  acts = λ l. omega arith;
  later = λ e. later_itself p;
  begun = λ e. absurd (omega (arith, e));
  left = λ l e. left_itself (p.change l);
  latest = λ h. refl;
}

-- nothing is asked
pub goes_unasked : (w : Layout) (k : Cursor) (recent : ℕ) (p q : Play) → KeepsAsked p q → IsLater p q → GoesTo w k recent p k recent q
goes_unasked w k recent p q K L = record {
  phases = omega arith;
  acts = λ l. omega arith;
  later = λ e. L;
  begun = λ e. absurd (omega (arith, e));
  left = λ l e. record { few = K.few l; more = K.more l };
  latest = λ h. refl;
}

pub goes_through : (w : Layout) (k : Cursor) (r : ℕ) (p : Play) (i : Cursor) (s : ℕ) (m : Play) (j : Cursor) (t : ℕ) (q : Play) → GoesTo w k r p i s m → GoesTo w i s m j t q → GoesTo w k r p j t q
goes_through w k r p i s m j t q A B =
    let first = A.phases in
    let second = B.phases in
    record {
      phases = omega (arith, first, second);
      acts = λ l. let a = A.acts l in let b = B.acts l in omega (arith, a, b);
      later = λ e. later_through p m q (A.later (omega (arith, first, second, e))) (B.later (omega (arith, first, second, e)));
      begun = λ e. elim (cases_eq i.phase k.phase) [
        | inl f ↦ later_through (acted w Begin p) (acted w Begin m) q (later_begun w p m (A.later f)) (B.begun (omega (arith, e, f)))
        | inr n ↦ later_through (acted w Begin p) m q (A.begun (omega (arith, first, second, e, n))) (B.later (omega (arith, first, second, e, n)))
      ];
      left = λ l e.
          let a = A.acts l in
          let b = B.acts l in
          left_through (p.change l) (m.change l) (q.change l) (A.left l (omega (arith, a, b, e))) (B.left l (omega (arith, a, b, e)));
      latest = λ h. B.latest (λ l. let a = A.acts l in let b = B.acts l in let e = h l in omega (arith, a, b, e)) ∙ A.latest (λ l. let a = A.acts l in let b = B.acts l in let e = h l in omega (arith, a, b, e));
    }

-- the StateSet goes to one component more
pub goes_sent : (w : Layout) (k : Cursor) (recent : ℕ) (p : Play) (c : ℕ) → CanAct w p (Send c) → GoesTo w k recent p (record k { sent = k.sent + 1 }) recent (acted w (Send c) p)
goes_sent w k recent p c C = record {
  phases = omega arith;
  acts = λ l. omega arith;
  later = λ e. later_by w p (Send c) tt C;
  begun = λ e. absurd (omega (arith, e));
  left = λ l e. left_itself (p.change l);
  latest = λ h. refl;
}

-- the next one is begun
pub goes_begun : (w : Layout) (k : Cursor) (recent : ℕ) (p : Play) (c : ℕ) → CanAct w (acted w Begin p) (Send c)
    → GoesTo w k recent p (record { phase = k.phase + 1; sent = 1; made = k.made; changing = None }) recent (acted w (Send c) (acted w Begin p))
goes_begun w k recent p c C = record {
  phases = omega arith;
  acts = λ l. omega arith;
  later = λ e. absurd (omega (arith, e));
  begun = λ e. later_by w (acted w Begin p) (Send c) tt C;
  left = λ l e. left_itself (p.change l);
  latest = λ h. refl;
}

-- one act more of a change is made
pub goes_changed : (w : Layout) (k : Cursor) (recent : ℕ) (p : Play) (l : ℕ) → CanAct w p (Conduct l) → GoesTo w k recent p (one_more l k) l (acted w (Conduct l) p)
goes_changed w k recent p l C = record {
  phases = omega arith;
  acts = λ i. at_one (λ (n : ℕ). k.made i ≤ n) i l (k.made i + 1) (k.made i) (λ e. omega arith) (λ n. omega arith);
  later = λ e. later_by w p (Conduct l) tt C;
  begun = λ e. absurd (omega (arith, e));
  left = λ i e. elim (cases_eq i l) [
    | inl f ↦ absurd (more_here (subst (λ (n : ℕ). (one_more l k).made n ≡ k.made n) f e))
    | inr n ↦ subst (λ (z : Change). IsLeft (p.change i) z) (sym (change_else p l i n)) (left_itself (p.change i))
  ];
  latest = λ h. absurd (more_here (h l));
}
  where
    more_here : (one_more l k).made l ≡ k.made l → ⊥
    more_here e = let m = made_here k l in omega (arith, e, m)
