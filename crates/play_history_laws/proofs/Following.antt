-- What was asked stays so in a play that goes on.
use Rattle.std.proofs.Common.{◌≡◌, ◌≢◌, ◌⊎◌, inl, inr, ℕ, ◌+◌, ◌<◌, ◌≤◌, true, Option, Some, None, refl, sym, ◌∙◌, ap, subst, arith}
use Rattle.std.proofs.lemmas.Bool.{cases_eq, cases_lt}
use Rattle.play_model.specs.Acts.{Act, acted, with_change, with_stage}
use Rattle.play_model.specs.Changes.{Change, IsChanged, conducted}
use Rattle.play_model.specs.Play.{Play}
use Rattle.play_world_laws.specs.Cast.{Cast, IsCast, components_of, links_of, script_place}
use Rattle.play_history_laws.specs.Following.{Follows, IsTurn}
use Rattle.play_history_laws.specs.Order.{Cursor, one_more}
use Rattle.play_history_laws.proofs.Keeping.{KeepsAsked, at_one}

module _ (x : Cast) (k : Cursor) (recent : ℕ) (p q : Play) (K : KeepsAsked p q) where
  turn_on : (o : Option ℕ) → IsTurn x k recent p o → IsTurn x k recent q o
  turn_on None T = λ l b t. elim (T l b t) [ inl z ↦ inl z | inr C ↦ inr (K.changed l C) ]
  turn_on (Some j) T = (K.phase ∙ T.0, T.1, T.2, T.3, T.4, λ c b. K.told c (T.5 c b), λ l b t n. elim (T.6 l b t n) [ inl z ↦ inl z | inr C ↦ inr (K.changed l C) ])

  pub follows_on : Follows x k recent p → Follows x k recent q
  follows_on F = record {
    phase = K.phase ∙ F.phase;
    unsent = λ c b h. K.unsent c (F.unsent c b h);
    sent = λ c b h. K.sent c (F.sent c b h);
    few = λ l b t z. K.few l (F.few l b t z);
    some = λ l b t m. let s = F.some l b t m in K.more l (omega (arith, s, m)) ∙ s;
    turn = turn_on k.changing F.turn;
  }

-- ---- a StateSet is sent to one component more

-- of one at a later place, and of one that isn't later
sent_before : (place n : ℕ) → place < n + 1 → (place ≡ n) ⊎ (place < n)
sent_before place n b = elim (cases_lt place n) [ inl l ↦ inr l | inr l ↦ inl (omega (arith, b, l)) ]

module _ (x : Cast) (C : IsCast x) (k : Cursor) (recent : ℕ) (p : Play) (c : ℕ) (b : c < components_of x) (at : script_place x c ≡ k.sent) where
  idle_turn : (o : Option ℕ) → p.stage c ≡ 0 → IsTurn x k recent p o → IsTurn x k recent (with_stage c 1 p) o
  idle_turn None z T = T
  idle_turn (Some j) z T = let f = T.5 c b in absurd (omega (arith, z, f))

  pub sends_on : Follows x k recent p → Follows x (record k { sent = k.sent + 1 }) recent (with_stage c 1 p)
  sends_on F = record {
    phase = F.phase;
    unsent = λ d e h. at_one (λ (m : ℕ). m ≡ 0) d c 1 (p.stage d) (λ q. let f = ap (script_place x) q in absurd (omega (arith, f, at, h))) (λ n. F.unsent d e (omega (arith, h)));
    sent = λ d e h. at_one (λ (m : ℕ). m ≢ 0) d c 1 (p.stage d) (λ q f. absurd (omega (arith, f))) (λ n. elim (sent_before (script_place x d) k.sent h) [
      | inl f ↦ absurd (n (C.apart d c e b (f ∙ sym at)))
      | inr f ↦ F.sent d e f
    ]);
    few = F.few;
    some = F.some;
    turn = idle_turn k.changing (F.unsent c b (omega (arith, at))) F.turn;
  }

-- the next one begins, and goes to the component at the first place
module _ (x : Cast) (C : IsCast x) (k : Cursor) (recent : ℕ) (p : Play) (c : ℕ) (b : c < components_of x) (at : script_place x c ≡ 0) where
  pub begins_first : Follows x k recent p → ((l : ℕ) → l < links_of x → (x.layout).is_late l ≡ true → (k.made l ≡ 0) ⊎ IsChanged (p.change l))
      → Follows x (record { phase = k.phase + 1; sent = 1; made = k.made; changing = None }) recent (with_stage c 1 (acted x.layout Act.Begin p))
  begins_first F done = record {
    phase = ap (λ (n : ℕ). n + 1) F.phase;
    unsent = λ d e h. at_one (λ (m : ℕ). m ≡ 0) d c 1 0 (λ q. let f = ap (script_place x) q in absurd (omega (arith, f, at, h))) (λ n. refl);
    sent = λ d e h. at_one (λ (m : ℕ). m ≢ 0) d c 1 0 (λ q f. absurd (omega (arith, f))) (λ n. absurd (n (C.apart d c e b (omega (arith, h, at)))));
    few = F.few;
    some = F.some;
    turn = done;
  }

-- ---- one act more of a change

pub made_here : (k : Cursor) (l : ℕ) → (one_more l k).made l ≡ k.made l + 1
made_here k l = at_one (λ (n : ℕ). n ≡ k.made l + 1) l l (k.made l + 1) (k.made l) (λ e. refl) (λ n. absurd (n refl))

pub made_else : (k : Cursor) (l j : ℕ) → j ≢ l → (one_more l k).made j ≡ k.made j
made_else k l j n = at_one (λ (m : ℕ). m ≡ k.made j) j l (k.made j + 1) (k.made j) (λ e. absurd (n e)) (λ n. refl)

step_here : (p : Play) (l : ℕ) → ((with_change l conducted p).change l).step ≡ (p.change l).step + 1
step_here p l = at_one (λ (z : Change). z.step ≡ (p.change l).step + 1) l l (conducted (p.change l)) (p.change l) (λ e. refl) (λ n. absurd (n refl))

pub change_else : (p : Play) (l j : ℕ) → j ≢ l → (with_change l conducted p).change j ≡ p.change j
change_else p l j n = at_one (λ (z : Change). z ≡ p.change j) j l (conducted (p.change j)) (p.change j) (λ e. absurd (n e)) (λ n. refl)

module _ (x : Cast) (k : Cursor) (recent : ℕ) (p : Play) (l : ℕ) (b : l < links_of x) (t : (x.layout).is_late l ≡ true) where
  pub conducts_on : Follows x k recent p → k.phase ≡ 2 → (p.change l).step ≡ k.made l + 2 → ((c : ℕ) → c < components_of x → p.stage c ≡ 4)
      → ((j : ℕ) → j < links_of x → (x.layout).is_late j ≡ true → j ≢ l → (k.made j ≡ 0) ⊎ IsChanged (p.change j))
      → Follows x (one_more l k) l (with_change l conducted p)
  conducts_on F two step all others = record {
    phase = F.phase;
    unsent = F.unsent;
    sent = F.sent;
    few = λ j c u z. elim (cases_eq j l) [
      | inl e ↦ let m = made_here k l in let f : (one_more l k).made l ≡ 0 = subst (λ (i : ℕ). (one_more l k).made i ≡ 0) e z in absurd (omega (arith, m, f))
      | inr n ↦ subst (λ (y : Change). y.step ≤ 2) (sym (change_else p l j n)) (F.few j c u (sym (made_else k l j n) ∙ z))
    ];
    some = λ j c u m. elim (cases_eq j l) [
      | inl e ↦
          let s = step_here p l in
          let a = made_here k l in
          subst (λ (i : ℕ). ((with_change l conducted p).change i).step ≡ (one_more l k).made i + 2) (sym e) (omega (arith, s, a, step))
      | inr n ↦
          let a = made_else k l j n in
          let s = F.some j c u (omega (arith, a, m)) in
          ap (λ (y : Change). y.step) (change_else p l j n) ∙ (s ∙ ap (λ (i : ℕ). i + 2) (sym a))
    ];
    turn = (
      F.phase ∙ two,
      refl,
      b,
      t,
      (let m = made_here k l in omega (arith, m)),
      all,
      λ j c u n. elim (others j c u n) [ inl z ↦ inl (made_else k l j n ∙ z) | inr C ↦ inr (subst IsChanged (sym (change_else p l j n)) C) ],
    );
  }
