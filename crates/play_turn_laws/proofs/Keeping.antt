-- What a conductor knows stays so by the acts of a play.
use Rattle.std.proofs.Common.{◌≡◌, inl, inr, ℕ, zero, suc, ◌+◌, ◌≤◌, Bool, true, false, ◌||◌, nat_eq, if◌then◌else◌, List, [], ◌∷◌, slice_get, Some, refl, sym, ◌∙◌, ap, subst, arith}
use Rattle.std.proofs.lemmas.Bool.{cases_eq}
use Rattle.conductor.specs.declared.phase.LateLink.{LateLink}
use Rattle.play_model.specs.Acts.{Act, CanAct, CanActs, acted, all_acted, with_change}
use Rattle.play_model.specs.Acts.Act.{Begin, Send, Run, Happen, Tell, TellEnd, Supply, Release, HandOver, HandBack, HandUnused, Announce, TellSettings, Conduct, RunPort, HappenPort, TellPort, Step}
use Rattle.play_model.specs.Changes.{Change, conducted, port_on, told_on}
use Rattle.play_model.specs.Play.{Layout, Play}
use Rattle.play_world_laws.specs.Cast.{Cast}
use Rattle.play_plan_laws.proofs.Links.{two_ways}
use Rattle.play_world_laws.proofs.Around.{change_else, change_here}
use Rattle.play_world_laws.proofs.Turning.{step_stays}
use Rattle.play_turn_laws.specs.Conducting.{AreCarriedOut, AreLates, AreOnLink, HasGoneOn, IsCarriedOut, IsLateAt, IsLateOf, IsOwnAct, IsToldBy, IsUnderWay}

-- ---- a change goes on

pub record IsFurther (k j : Change) : Type 0 where
  pub outputs : k.output ≤ j.output
  pub inputs : k.input ≤ j.input
  pub way : (n : ℕ) → IsUnderWay n k.step → IsUnderWay n j.step
  pub out : (n : ℕ) → IsCarriedOut n k.step → IsCarriedOut n j.step

stays : (k : Change) → IsFurther k k
stays k = record { outputs = omega arith; inputs = omega arith; way = λ n u. u; out = λ n u. u }

-- its settings are announced, or told
telling : (k : Change) → k.step ≤ 1 → IsFurther k (told_on k)
telling k l = record { outputs = omega arith; inputs = omega arith; way = way k.step l; out = out k.step l }
  where
    way : (s : ℕ) → s ≤ 1 → (n : ℕ) → IsUnderWay n s → IsUnderWay n (s + 1)
    way s l zero u = omega arith
    way s l (suc zero) u = let a = u.0 in absurd (omega arith)
    way s l (suc (suc zero)) u = let a = u.0 in absurd (omega arith)
    way s l (suc (suc (suc zero))) u = let a = u.0 in absurd (omega arith)
    way s l (suc (suc (suc (suc n)))) u = absurd u

    out : (s : ℕ) → s ≤ 1 → (n : ℕ) → IsCarriedOut n s → IsCarriedOut n (s + 1)
    out s l zero u = omega arith
    out s l (suc zero) u = absurd (omega arith)
    out s l (suc (suc zero)) u = absurd (omega arith)
    out s l (suc (suc (suc zero))) u = absurd (omega arith)
    out s l (suc (suc (suc (suc n)))) u = absurd u

porting : (o : Bool) (k : Change) → IsFurther k (port_on o k)
porting true k = record { outputs = omega arith; inputs = omega arith; way = λ n u. u; out = λ n u. u }
porting false k = record { outputs = omega arith; inputs = omega arith; way = λ n u. u; out = λ n u. u }

at_change : (l : ℕ) (g : Change → Change) (p : Play) → IsFurther (p.change l) (g (p.change l)) → (k : ℕ) → IsFurther (p.change k) ((with_change l g p).change k)
at_change l g p F k = elim (cases_eq k l) [
  | inl e ↦ subst (λ (i : ℕ). IsFurther (p.change i) ((with_change l g p).change i)) (sym e) (subst (λ (z : Change). IsFurther (p.change l) z) (sym (change_here l g p)) F)
  | inr n ↦ subst (λ (z : Change). IsFurther (p.change k) z) (sym (change_else l g p k n)) (stays (p.change k))
]

further : (w : Layout) (p : Play) (act : Act) → CanAct w p act → IsOwnAct act → (k : ℕ) → IsFurther (p.change k) ((acted w act p).change k)
further w p Begin C O k = absurd O
further w p (Conduct l) C O k = absurd O
further w p (Announce l) C O k = at_change l told_on p (telling (p.change l) (let z = C.3 in omega arith)) k
further w p (TellSettings l) C O k = at_change l told_on p (telling (p.change l) (let z = C.3 in omega arith)) k
further w p (RunPort l o) C O k = at_change l (port_on o) p (porting o (p.change l)) k
further w p (HappenPort l o) C O k = at_change l (port_on o) p (porting o (p.change l)) k
further w p (TellPort l o) C O k = at_change l (port_on o) p (porting o (p.change l)) k
further w p (Send c) C O k = stays (p.change k)
further w p (Run c) C O k = stays (p.change k)
further w p (Happen c) C O k = stays (p.change k)
further w p (Tell c) C O k = stays (p.change k)
further w p (TellEnd c) C O k = stays (p.change k)
further w p (Supply l) C O k = stays (p.change k)
further w p (Release l) C O k = stays (p.change k)
further w p (HandOver l) C O k = stays (p.change k)
further w p (HandBack l) C O k = stays (p.change k)
further w p (HandUnused l) C O k = stays (p.change k)
further w p (Step c n last) C O k = stays (p.change k)

-- ---- one link

told_further : (k j : Change) (late : LateLink) → k.output ≤ j.output → k.input ≤ j.input → IsToldBy k late → IsToldBy j late
told_further k j late a b T = record {
  output_disabled = λ t. let m = T.output_disabled t in omega arith;
  input_disabled = λ t. let m = T.input_disabled t in omega arith;
  output_enabled = λ t. let m = T.output_enabled t in omega arith;
  input_enabled = λ t. let m = T.input_enabled t in omega arith;
}

late_further : (x : Cast) (recent : ℕ) (p q : Play) (l : ℕ) (late : LateLink) → IsFurther (p.change l) (q.change l) → IsLateAt x recent p l late → IsLateAt x recent q l late
late_further x recent p q l late F K = record {
  of_link = K.of_link;
  way = F.way late.steps K.way;
  told = told_further (p.change l) (q.change l) late F.outputs F.inputs K.told;
  disabled = K.disabled;
  latest = K.latest;
}

-- ---- all of them

pub lates_kept : (x : Cast) (recent : ℕ) (p : Play) (act : Act) (lates : List LateLink) → CanAct x.layout p act → IsOwnAct act → AreLates x recent p lates → AreLates x recent (acted x.layout act p) lates
lates_kept x recent p act lates C O L = record {
  each = λ i late e. let k = L.each i late e in (k.0, late_further x recent p (acted x.layout act p) k.0 late (further x.layout p act C O k.0) k.1);
  some = λ l b t. let k = L.some l b t in (k.0, k.1, k.2, late_further x recent p (acted x.layout act p) l k.1 (further x.layout p act C O l) k.3);
  rising = L.rising;
}

pub carried_kept : (x : Cast) (p : Play) (act : Act) (lates : List LateLink) → CanAct x.layout p act → IsOwnAct act → AreCarriedOut x p lates → AreCarriedOut x (acted x.layout act p) lates
carried_kept x p act lates C O D i l late e N = (further x.layout p act C O l).out late.steps (D i l late e N)

-- a source has one entry
pub one_entry : (x : Cast) (recent : ℕ) (p : Play) (lates : List LateLink) → AreLates x recent p lates → (i j : ℕ) (a b : LateLink) → slice_get lates i ≡ Some a → slice_get lates j ≡ Some b → a.source ≡ b.source → (i ≡ j) × (a ≡ b)
one_entry x recent p lates L i j a b e f s = elim (two_ways i j) [
  | inl h ↦ let r = L.rising i j a b h e f in absurd (omega arith)
  | inr h ↦ elim h [
    | inl k ↦ let g : Some a ≡ Some b = sym e ∙ (ap (slice_get lates) k ∙ f) in (k, cc)
    | inr k ↦ let r = L.rising j i b a k f e in absurd (omega arith)
  ]
]

-- both are of one link
pub same_source : (x : Cast) (k l : ℕ) (a b : LateLink) → IsLateOf x k a → IsLateOf x l b → k ≡ l → a.source ≡ b.source
same_source x k l a b K L e = K.source ∙ (ap (λ (i : ℕ). (x.layout).place (((x.layout).network).giver i)) e ∙ sym L.source)

-- ---- an act of the conductor

module _ (x : Cast) (p : Play) (l i : ℕ) (late : LateLink) (lates : List LateLink) (L : AreLates x l p lates) (e : slice_get lates i ≡ Some late) (N : IsLateOf x l late) (more : IsUnderWay late.steps ((p.change l).step + 1)) where
  abbrev q : Play
  q = acted x.layout (Act.Conduct l) p

  ports_rise : (k : Change) → (k.output ≤ (conducted k).output) × (k.input ≤ (conducted k).input)
  ports_rise k = (rises (nat_eq k.step 2 || nat_eq k.step 8) k.output, rises (nat_eq k.step 3 || nat_eq k.step 9) k.input)
    where
      rises : (b : Bool) (n : ℕ) → n ≤ (if b then n + 1 else n)
      rises true n = omega arith
      rises false n = omega arith

  there : (other : LateLink) (j k : ℕ) → slice_get lates j ≡ Some other → IsLateAt x l p k other → IsLateAt x l q k other
  there other j k f K = elim (cases_eq k l) [
    | inl s ↦
        let same = (one_entry x l p lates L i j late other e f (same_source x l k late other N K.of_link (sym s))).1 in
        let n : other.steps ≡ late.steps = ap (λ (y : LateLink). y.steps) (sym same) in
        let r = ports_rise (p.change l) in
        let now : q.change k ≡ conducted (p.change k) = subst (λ (m : ℕ). q.change m ≡ conducted (p.change m)) (sym s) (change_here l conducted p) in
        let w : IsUnderWay other.steps ((p.change k).step + 1) = subst (λ (m : ℕ). IsUnderWay other.steps ((p.change m).step + 1)) (sym s) (subst (λ (m : ℕ). IsUnderWay m ((p.change l).step + 1)) (sym n) more) in
        let both = ports_rise (p.change k) in
        record {
          of_link = K.of_link;
          way = subst (λ (z : Change). IsUnderWay other.steps z.step) (sym now) w;
          told = subst (λ (z : Change). IsToldBy z other) (sym now) (told_further (p.change k) (conducted (p.change k)) other both.0 both.1 K.told);
          disabled = K.disabled;
          latest = K.latest;
        }
    | inr n ↦ late_further x l p q k other (subst (λ (z : Change). IsFurther (p.change k) z) (sym (change_else l conducted p k n)) (stays (p.change k))) K
  ]

  pub lates_conducted : AreLates x l q lates
  lates_conducted = record {
    each = λ j other f. let k = L.each j other f in (k.0, there other j k.0 f k.1);
    some = λ k b t. let r = L.some k b t in (r.0, r.1, r.2, there r.1 r.0 k r.2 r.3);
    rising = L.rising;
  }

pub conduct_keeps : (x : Cast) (p : Play) (l i : ℕ) (late : LateLink) (lates : List LateLink) → AreLates x l p lates → slice_get lates i ≡ Some late → IsLateOf x l late
    → IsUnderWay late.steps ((p.change l).step + 1) → AreLates x l (acted x.layout (Act.Conduct l) p) lates
conduct_keeps x p l i late lates L e N more = lates_conducted x p l i late lates L e N more

-- ---- a step that is carried out

-- between two places of its way it is under way
way_between : (steps low n : ℕ) → IsUnderWay steps low → IsUnderWay steps (low + (n + 1)) → IsUnderWay steps (low + 1)
way_between zero low n a b = omega arith
way_between (suc zero) low n a b = let c = a.0 in let d = b.1 in (omega arith, omega arith)
way_between (suc (suc zero)) low n a b = let c = a.0 in let d = b.1 in (omega arith, omega arith)
way_between (suc (suc (suc zero))) low n a b = let c = a.0 in let d = b.1 in (omega arith, omega arith)
way_between (suc (suc (suc (suc k)))) low n a b = absurd a

port_stays : (l : ℕ) (o : Bool) (p : Play) (k : ℕ) → ((with_change l (port_on o) p).change k).step ≡ (p.change k).step
port_stays l o p k = elim (cases_eq k l) [
  | inl e ↦ subst (λ (i : ℕ). ((with_change l (port_on o) p).change i).step ≡ (p.change i).step) (sym e) (ap (λ (z : Change). z.step) (change_here l (port_on o) p) ∙ step_stays o (p.change l))
  | inr n ↦ ap (λ (z : Change). z.step) (change_else l (port_on o) p k n)
]

on_after : (l : ℕ) (p m q : Play) (n : ℕ) → ((k : ℕ) → (m.change k).step ≡ (p.change k).step) → HasGoneOn l m q n → HasGoneOn l p q n
on_after l p m q n same G = record { on_link = G.on_link ∙ ap (λ (s : ℕ). s + n) (same l); others = λ k d. G.others k d ∙ same k }

on_one : (k l : ℕ) (p q : Play) (n : ℕ) → k ≡ l → HasGoneOn l (with_change k conducted p) q n → HasGoneOn l p q (n + 1)
on_one k l p q n e = subst (λ (j : ℕ). HasGoneOn l (with_change j conducted p) q n → HasGoneOn l p q (n + 1)) (sym e) (λ G.
    let s : ((with_change l conducted p).change l).step ≡ (p.change l).step + 1 = ap (λ (z : Change). z.step) (change_here l conducted p) in
    let g = G.on_link in
    record { on_link = omega arith; others = λ i d. G.others i d ∙ ap (λ (z : Change). z.step) (change_else l conducted p i d) })

-- of its link the last step answered is under way
its_way : (x : Cast) (recent : ℕ) (p : Play) (l i : ℕ) (late : LateLink) (lates : List LateLink) → AreLates x recent p lates → slice_get lates i ≡ Some late → IsLateOf x l late → IsUnderWay late.steps (p.change l).step
its_way x recent p l i late lates L e N =
    let r = L.some l N.below N.late in
    let same = (one_entry x recent p lates L r.0 i r.1 late r.2 e (same_source x l l r.1 late (r.3).of_link N refl)).1 in
    subst (λ (y : LateLink). IsUnderWay y.steps (p.change l).step) same (r.3).way

-- one more of the conductor's, and what is still to come
one_on : (x : Cast) (p : Play) (k l i n m : ℕ) (late : LateLink) (lates : List LateLink) → k ≡ l → n ≡ m + 1 → AreLates x l p lates → slice_get lates i ≡ Some late → IsLateOf x l late → IsUnderWay late.steps ((p.change l).step + n)
    → AreLates x l (acted x.layout (Act.Conduct k) p) lates × IsUnderWay late.steps (((acted x.layout (Act.Conduct k) p).change l).step + m)
one_on x p k l i n m late lates s f L e N more =
    let whole : IsUnderWay late.steps ((p.change l).step + (m + 1)) = subst (λ (z : ℕ). IsUnderWay late.steps ((p.change l).step + z)) f more in
    let now : ((acted x.layout (Act.Conduct l) p).change l).step ≡ (p.change l).step + 1 = ap (λ (z : Change). z.step) (change_here l conducted p) in
    let rest : (p.change l).step + (m + 1) ≡ ((acted x.layout (Act.Conduct l) p).change l).step + m = omega arith in
    let lates_then = lates_conducted x p l i late lates L e N (way_between late.steps (p.change l).step m (its_way x l p l i late lates L e N) whole) in
    subst (λ (j : ℕ). AreLates x l (acted x.layout (Act.Conduct j) p) lates × IsUnderWay late.steps (((acted x.layout (Act.Conduct j) p).change l).step + m)) (sym s) (lates_then, subst (λ (z : ℕ). IsUnderWay late.steps z) rest whole)

pub acts_gone : (w : Layout) (p : Play) (l n : ℕ) (acts : List Act) → AreOnLink l acts n → HasGoneOn l p (all_acted w acts p) n
acts_gone w p l n [] O = record { on_link = omega arith; others = λ k d. refl }
acts_gone w p l n (Happen c ∷ acts) O = on_after l p (acted w (Act.Happen c) p) (all_acted w acts (acted w (Act.Happen c) p)) n (λ k. refl) (acts_gone w (acted w (Act.Happen c) p) l n acts O)
acts_gone w p l n (HappenPort k o ∷ acts) O =
    let m : Play = acted w (Act.HappenPort k o) p in
    on_after l p m (all_acted w acts m) n (port_stays k o p) (acts_gone w m l n acts O)
acts_gone w p l n (Conduct k ∷ acts) O =
    let q : Play = acted w (Act.Conduct k) p in
    subst (λ (z : ℕ). HasGoneOn l p (all_acted w acts q) z) (sym O.2) (on_one k l p (all_acted w acts q) O.1 O.0 (acts_gone w q l O.1 acts O.3))
acts_gone w p l n (Begin ∷ acts) O = absurd O
acts_gone w p l n (Send c ∷ acts) O = absurd O
acts_gone w p l n (Run c ∷ acts) O = absurd O
acts_gone w p l n (Tell c ∷ acts) O = absurd O
acts_gone w p l n (TellEnd c ∷ acts) O = absurd O
acts_gone w p l n (Supply k ∷ acts) O = absurd O
acts_gone w p l n (Release k ∷ acts) O = absurd O
acts_gone w p l n (HandOver k ∷ acts) O = absurd O
acts_gone w p l n (HandBack k ∷ acts) O = absurd O
acts_gone w p l n (HandUnused k ∷ acts) O = absurd O
acts_gone w p l n (Announce k ∷ acts) O = absurd O
acts_gone w p l n (TellSettings k ∷ acts) O = absurd O
acts_gone w p l n (RunPort k o ∷ acts) O = absurd O
acts_gone w p l n (TellPort k o ∷ acts) O = absurd O
acts_gone w p l n (Step c k last ∷ acts) O = absurd O

pub acts_keep : (x : Cast) (p : Play) (l i n : ℕ) (late : LateLink) (lates : List LateLink) (acts : List Act) → CanActs x.layout p acts → AreOnLink l acts n → AreLates x l p lates → slice_get lates i ≡ Some late → IsLateOf x l late
    → IsUnderWay late.steps ((p.change l).step + n) → AreLates x l (all_acted x.layout acts p) lates
acts_keep x p l i n late lates [] C O L e N more = L
acts_keep x p l i n late lates (Happen c ∷ acts) C O L e N more = acts_keep x (acted x.layout (Act.Happen c) p) l i n late lates acts C.1 O (lates_kept x l p (Act.Happen c) lates C.0 tt L) e N more
acts_keep x p l i n late lates (HappenPort k o ∷ acts) C O L e N more =
    let m : Play = acted x.layout (Act.HappenPort k o) p in
    acts_keep x m l i n late lates acts C.1 O (lates_kept x l p (Act.HappenPort k o) lates C.0 tt L) e N (subst (λ (s : ℕ). IsUnderWay late.steps (s + n)) (sym (port_stays k o p l)) more)
acts_keep x p l i n late lates (Conduct k ∷ acts) C O L e N more =
    let one = one_on x p k l i n O.1 late lates O.0 O.2 L e N more in
    acts_keep x (acted x.layout (Act.Conduct k) p) l i O.1 late lates acts C.1 O.3 one.0 e N one.1
acts_keep x p l i n late lates (Begin ∷ acts) C O L e N more = absurd O
acts_keep x p l i n late lates (Send c ∷ acts) C O L e N more = absurd O
acts_keep x p l i n late lates (Run c ∷ acts) C O L e N more = absurd O
acts_keep x p l i n late lates (Tell c ∷ acts) C O L e N more = absurd O
acts_keep x p l i n late lates (TellEnd c ∷ acts) C O L e N more = absurd O
acts_keep x p l i n late lates (Supply k ∷ acts) C O L e N more = absurd O
acts_keep x p l i n late lates (Release k ∷ acts) C O L e N more = absurd O
acts_keep x p l i n late lates (HandOver k ∷ acts) C O L e N more = absurd O
acts_keep x p l i n late lates (HandBack k ∷ acts) C O L e N more = absurd O
acts_keep x p l i n late lates (HandUnused k ∷ acts) C O L e N more = absurd O
acts_keep x p l i n late lates (Announce k ∷ acts) C O L e N more = absurd O
acts_keep x p l i n late lates (TellSettings k ∷ acts) C O L e N more = absurd O
acts_keep x p l i n late lates (RunPort k o ∷ acts) C O L e N more = absurd O
acts_keep x p l i n late lates (TellPort k o ∷ acts) C O L e N more = absurd O
acts_keep x p l i n late lates (Step c k last ∷ acts) C O L e N more = absurd O
