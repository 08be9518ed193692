-- Several headers that go from one owner to another, one after another: those of a work that goes out, and of one that comes back.
use Rattle.std.proofs.Common.{◌≡◌, ◌≢◌, ◌⊎◌, inl, inr, ℕ, suc, ◌<◌, List, [], ◌∷◌, map, Option, Some, refl, sym, ◌∙◌, ap, subst, eq-eqb, ne_eqb, arith}
use Rattle.std.proofs.lemmas.Bool.{cases_eq}
use Rattle.il_machine.specs.declared.port.PortKey.{PortKey}
use Rattle.il_machine.specs.declared.port.Port.{Port}
use Rattle.il_machine.specs.declared.header.Owner.{Owner}
use Rattle.il_machine.specs.declared.header.Owner.TheVariants as owners
use Rattle.il_machine.specs.declared.header.Spot.TheVariants.{TodoFront, DoneBack}
use Rattle.il_machine.specs.World.{Component, HeaderRecord, Load, Picked, Stream, number_of, port_of}
use Rattle.il_machine.specs.Headers.{find_header, is_for, changed, given_to, loaded, put_at, Once}
use Rattle.il_machine.specs.Census.{times}
use Rattle.il_machine.specs.Claims.{CarriedHeader, all_given_out}
use Rattle.il_machine.specs.Stepping.{WorkDone}
use Rattle.il_machine.specs.Finishing.{Landing, Again, Onward, Noted, landing, load_after, key_at, landed_at, all_landed}
use Rattle.il_machine.specs.Trails.{With, Move, trail, claimed_move, finished_move, landed_owner}
use Rattle.machine_laws.proofs.Replacing.{IsReplaced, replaced_changed, replaced_put}
use Rattle.machine_laws.proofs.Listed.{IsIn, times_self, times_else}
use Rattle.machine_laws.proofs.Claiming.{AreInPorts, in_ports_kept}
use Rattle.machine_laws.proofs.Shifting.{Shifted}
use Rattle.machine_laws.proofs.Landing.{AreOf, AreMade, front_is, one_landed}
use Rattle.history_laws.specs.Memory.{memory_of}
use Rattle.history_laws.proofs.Carried.{IsLeft, IsPassedOn, ArePassedOn}

pub none_passed_on : (hs : List HeaderRecord) → Once hs → ArePassedOn hs [] hs
none_passed_on hs o = record { once = o; each = λ n. inl (refl, refl) }

-- what the first of them does
pub record IsFirst (n : ℕ) (r s : HeaderRecord) : Type 0 where
  pub home : (s.state).home ≡ (r.state).home
  pub made_for : (key : PortKey) → is_for key s.state ≡ is_for key r.state
  pub from_other : (r.state).owner ≢ owners.Client
  pub to_other : (s.state).owner ≢ owners.Client
  pub memory : ((k : ℕ) × ((r.state).owner ≡ owners.Work k)) ⊎ (memory_of s ≡ memory_of r)

some_move : (m : Move) → [] ≡ (m ∷ []) → ⊥
some_move m e = cc

-- one header, and then others
pub passed_on : (n : ℕ) (r s : HeaderRecord) (hs ks ls : List HeaderRecord) (ms : List Move) → IsReplaced n r s hs ks → IsFirst n r s → trail n ms ≡ [] → ArePassedOn ks ms ls
    → ArePassedOn hs (record { header = n; from = With (r.state).owner; to = With (s.state).owner } ∷ ms) ls
passed_on n r s hs ks ls ms R F t A = record {
  once = A.once;
  each = λ j. elim (cases_eq j n) [
    | inl e ↦ subst (λ (k : ℕ). IsLeft k hs (m ∷ ms) ls ⊎ IsPassedOn k hs (m ∷ ms) ls) (sym e) (elim (A.each n) [
      | inl L ↦ inr (record {
        was = r;
        now = s;
        found = R.was;
        here = L.0 ∙ R.here;
        home = F.home;
        made_for = F.made_for;
        from_other = F.from_other;
        to_other = F.to_other;
        memory = F.memory;
        moves = own ∙ ap (λ (l : List Move). m ∷ l) t;
      })
      | inr P ↦ absurd (some_move (record { header = n; from = With ((P.was).state).owner; to = With ((P.now).state).owner }) (sym t ∙ P.moves))
    ])
    | inr d ↦
        let skip : trail j (m ∷ ms) ≡ trail j ms = rw (ne_eqb n j (λ k. d (sym k))) refl in
        elim (A.each j) [
          | inl L ↦ inl (L.0 ∙ R.others j d, skip ∙ L.1)
          | inr P ↦ inr (record {
            was = P.was;
            now = P.now;
            found = sym (R.others j d) ∙ P.found;
            here = P.here;
            home = P.home;
            made_for = P.made_for;
            from_other = P.from_other;
            to_other = P.to_other;
            memory = P.memory;
            moves = skip ∙ P.moves;
          })
        ]
  ];
}
  where
    m : Move
    m = record { header = n; from = With (r.state).owner; to = With (s.state).owner }

    own : trail n (m ∷ ms) ≡ m ∷ trail n ms
    own = rw (eq-eqb n n refl) refl

-- ---- a work goes out

port_apart : (key : PortKey) (o : Owner) → o ≡ owners.Port key → o ≢ owners.Client
port_apart key o e f = let x : owners.Port key ≡ owners.Client = sym e ∙ f in cc

work_apart : (k : ℕ) (o : Owner) → o ≡ owners.Work k → o ≢ owners.Client
work_apart k o e f = let x : owners.Work k ≡ owners.Client = sym e ∙ f in cc

-- the later ones are others
later_apart : (k from n port : ℕ) (hs : List HeaderRecord) (I : IsIn (record { component = k; port = port }) hs n) → port < from → (ps : List Picked) (xs : List CarriedHeader) → AreInPorts k from hs ps → AreOf ps xs
    → trail n (map (claimed_move k) xs) ≡ []
later_apart k from n port hs I l [] [] A E = refl
later_apart k from n port hs I l [] (x ∷ xs) A E = absurd E
later_apart k from n port hs I l (p ∷ ps) [] A E = refl
later_apart k from n port hs I l (p ∷ ps) (x ∷ xs) A E =
    let J = A.1 in
    let apart : x.header.number ≢ n = λ e.
    let q : p.number ≡ n = sym E.1 ∙ e in
    let f : find_header n hs ≡ Some J.header = subst (λ (m : ℕ). find_header m hs ≡ Some J.header) q J.found in
    let g : Some J.header ≡ Some I.header = sym f ∙ I.found in
    let h : J.header ≡ I.header = cc in
    let o = sym J.owner ∙ (ap (λ (y : HeaderRecord). y.state.owner) h ∙ I.owner) in
    let a : PortKey = record { component = k; port = p.port } in
    let b : PortKey = record { component = k; port = port } in
    let c : a ≡ b = cc in
    let d : p.port ≡ port = ap (λ (y : PortKey). y.port) {x = a} {y = b} c in
    omega (arith, A.0) in
    rw (ne_eqb x.header.number n apart) (later_apart k (suc p.port) n port hs I (omega (arith, A.0)) ps xs A.2 E.2)

pub claim_passed_on : (k from : ℕ) (ks : List HeaderRecord) (ps : List Picked) (xs : List CarriedHeader) → Once ks → AreInPorts k from ks ps → AreOf ps xs → ArePassedOn ks (map (claimed_move k) xs) (all_given_out k ps ks)
claim_passed_on k from ks [] [] o A E = none_passed_on ks o
claim_passed_on k from ks [] (x ∷ xs) o A E = absurd E
claim_passed_on k from ks (p ∷ ps) [] o A E = absurd E
claim_passed_on k from ks (p ∷ ps) (x ∷ xs) o A E =
    let I = A.1 in
    let n : ℕ = p.number in
    let r : HeaderRecord = I.header in
    let s : HeaderRecord = given_to (owners.Work k) r in
    let ls : List HeaderRecord = changed n (given_to (owners.Work k)) ks in
    let R = replaced_changed (given_to (owners.Work k)) (λ y. refl) n ks r o I.found in
    let later = in_ports_kept k (suc p.port) n p.port ks ls s I R (omega arith) ps A.2 in
    let rest = claim_passed_on k (suc p.port) ls ps xs R.once later E.2 in
    let m : record { header = n; from = With (r.state).owner; to = With (s.state).owner } ≡ claimed_move k x =
    (λ i. record { header = sym E.1 i; from = With (I.owner i); to = With (owners.Work k) }) ∙ (λ i. record { header = x.header.number; from = With (owners.Port (record { component = k; port = sym E.0 i })); to = With (owners.Work k) }) in
    let F : IsFirst n r s = record {
      home = refl;
      made_for = λ key. refl;
      from_other = port_apart (record { component = k; port = p.port }) (r.state).owner I.owner;
      to_other = λ e. cc;
      memory = inr refl;
    } in
    let B = passed_on n r s ks ls (all_given_out k ps ls) (map (claimed_move k) xs) R F (later_apart k (suc p.port) n p.port ks I (omega arith) ps xs A.2 E.2) rest in
    subst (λ (y : Move). ArePassedOn ks (y ∷ map (claimed_move k) xs) (all_given_out k ps ls)) m B

-- ---- a work comes back

lands_apart : (l : Landing) (c : Component) (x : CarriedHeader) (o : Owner) → o ≡ landed_owner l c x → o ≢ owners.Client
lands_apart Again c x o e f = let q : owners.Port (key_at c x) ≡ owners.Client = sym e ∙ f in cc
lands_apart Onward c x o e f = let q : owners.Port (key_at c x) ≡ owners.Client = sym e ∙ f in cc
lands_apart Noted c x o e f = let q : owners.Notice (number_of c) ≡ owners.Client = sym e ∙ f in cc

-- a header that landed, in place of the one that was out
pub record IsLanded (c : Component) (x : CarriedHeader) (l : Landing) (load : Load) (r : HeaderRecord) (ks : List HeaderRecord) : Type 0 where
  pub now : HeaderRecord
  pub replaced : IsReplaced x.header.number r now ks (landed_at l c x load ks)
  pub owner : (now.state).owner ≡ landed_owner l c x
  pub load_is : now.load ≡ load
  pub home : (now.state).home ≡ (r.state).home
  pub made_for : (key : PortKey) → is_for key now.state ≡ is_for key r.state

pub landed_one : (c : Component) (x : CarriedHeader) (l : Landing) (load : Load) (r : HeaderRecord) (ks : List HeaderRecord) → Once ks → find_header x.header.number ks ≡ Some r → IsLanded c x l load r ks
landed_one c x Again load r ks o f = record {
  now = put_at (key_at c x) TodoFront (loaded load r);
  replaced = replaced_put (key_at c x) TodoFront (loaded load) (λ y. refl) x.header.number ks r o f;
  owner = refl;
  load_is = refl;
  home = refl;
  made_for = λ key. refl;
}
landed_one c x Onward load r ks o f = record {
  now = put_at (key_at c x) DoneBack (loaded load r);
  replaced = replaced_put (key_at c x) DoneBack (loaded load) (λ y. refl) x.header.number ks r o f;
  owner = refl;
  load_is = refl;
  home = refl;
  made_for = λ key. refl;
}
landed_one c x Noted load r ks o f = record {
  now = given_to (owners.Notice (number_of c)) (loaded load r);
  replaced = replaced_changed (λ y. given_to (owners.Notice (number_of c)) (loaded load y)) (λ y. refl) x.header.number ks r o f;
  owner = refl;
  load_is = refl;
  home = refl;
  made_for = λ key. refl;
}

none_left : (n : ℕ) (c : Component) (s : Stream) (done : WorkDone) (xs : List CarriedHeader) → times n (map (λ x. x.header.number) xs) ≡ 0 → trail n (map (finished_move c s done) xs) ≡ []
none_left n c s done [] e = refl
none_left n c s done (x ∷ xs) e = elim (cases_eq x.header.number n) [
  | inl is ↦
      let a : times n (n ∷ map (λ y. y.header.number) xs) ≡ 0 = subst (λ (k : ℕ). times n (k ∷ map (λ y. y.header.number) xs) ≡ 0) is e in
      let b = times_self n (map (λ y. y.header.number) xs) in
      absurd (omega arith)
  | inr d ↦ let b = times_else n x.header.number (map (λ y. y.header.number) xs) d in rw (ne_eqb x.header.number n d) (none_left n c s done xs (sym b ∙ e))
]

module _ (ports : PortKey → Option Port) (c : Component) (there : (port : ℕ) (p : Port) → ports (record { component = number_of c; port = port }) ≡ Some p → port_of c port ≡ Some p) (hs : List HeaderRecord) where
  pub finish_passed_on : (ks : List HeaderRecord) (notes : List ℕ) (s : Stream) (done : WorkDone) (xs : List CarriedHeader) → Shifted ports (number_of c) hs notes (map (λ x. x.header.number) xs) ks → AreMade (number_of c) hs xs
      → ArePassedOn ks (map (finished_move c s done) xs) (all_landed c s done xs ks)
  finish_passed_on ks notes s done [] A M = none_passed_on ks A.once
  finish_passed_on ks notes s done (x ∷ xs) A M =
      let l : Landing = landing c s done x in
      let n : ℕ = x.header.number in
      let load : Load = load_after c s done x in
      let ls : List HeaderRecord = landed_at l c x load ks in
      let rest : List ℕ = map (λ y. y.header.number) xs in
      let F = front_is ports c there hs ks notes rest n A in
      let r : HeaderRecord = F.0 in
      let L = landed_one c x l load r ks A.once F.1 in
      let z = times_self n rest in
      let B = one_landed ports c there hs ks notes rest s done x load l refl A M.0 in
      let D = finish_passed_on ls _ s done xs B M.1 in
      let m : record { header = n; from = With (r.state).owner; to = With ((L.now).state).owner } ≡ finished_move c s done x = (λ i. record { header = n; from = With (F.2 i); to = With (L.owner i) }) in
      let G : IsFirst n r L.now = record {
        home = L.home;
        made_for = L.made_for;
        from_other = work_apart (number_of c) (r.state).owner F.2;
        to_other = lands_apart l c x ((L.now).state).owner L.owner;
        memory = inl (number_of c, F.2);
      } in
      let E = passed_on n r L.now ks ls (all_landed c s done xs ls) (map (finished_move c s done) xs) L.replaced G (none_left n c s done xs (omega (arith, F.4))) D in
      subst (λ (y : Move). ArePassedOn ks (y ∷ map (finished_move c s done) xs) (all_landed c s done xs ls)) m E
