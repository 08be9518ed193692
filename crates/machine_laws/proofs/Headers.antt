-- A header of a sound world is changed, removed and added.
use Rattle.std.proofs.Common.{◌≡◌, ◌≢◌, inl, inr, ℕ, ◌+◌, ◌<◌, Bool, true, false, nat_eq, List, [], ◌∷◌, ◌++◌, slice_get, Option, Some, None, option_map, refl, sym, ◌∙◌, ap, subst, eqb-true, arith}
use Rattle.std.proofs.lemmas.Bool.{cases_eq, or_cases}
use Rattle.il_machine.specs.declared.port.PortKey.{PortKey}
use Rattle.il_machine.specs.declared.port.Port.{Port}
use Rattle.il_machine.specs.declared.header.HeaderState.{HeaderState}
use Rattle.il_machine.specs.declared.header.Owner.{Owner}
use Rattle.il_machine.specs.declared.header.Owner.TheVariants as owners
use Rattle.il_machine.specs.declared.header.Queue.TheVariants.{Out}
use Rattle.il_machine.specs.declared.header.Spot.{Spot}
use Rattle.il_machine.specs.declared.header.Spot.TheVariants.{TodoBack, TodoFront, DoneBack}
use Rattle.il_machine.specs.Lists.{holds_at}
use Rattle.il_machine.specs.World.{Component, HeaderRecord, number_of}
use Rattle.il_machine.specs.Headers.{find_header, state_of, count_headers, weight, is_for, is_notice_of, is_work_of, put, put_at, changed, without, spot_queue}
use Rattle.il_machine.specs.Sound.{IsMadeFor, IsOwnedSo, is_in_notes_of, is_key_of, port_at}
use Rattle.machine_laws.proofs.Finding.{without_else, without_same, once_without, push_last, push_else, once_push, changed_nothing}
use Rattle.machine_laws.proofs.Keys.{there_is, none_or_some}
use Rattle.machine_laws.proofs.Lookups.{has_port}
use Rattle.machine_laws.proofs.Replacing.{IsReplaced, replaced_changed, replaced_put}
use Rattle.machine_laws.proofs.Ties.{IsSet, IsMadeAs, made_peer, other_side, tied_replaced, tied_without, tied_push}
use Rattle.machine_laws.proofs.Works.{KeepsWorks, worked_at, works_kept, keeps_works_but, keeps_works_seen}
use Rattle.machine_laws.proofs.Parts.{Parts, Noted, ports_in_list}

-- the header is in a note or in a work
abbrev pub is_set_aside : Owner → Bool
is_set_aside (owners.Notice component) = true
is_set_aside (owners.Work component) = true
is_set_aside _ = false

-- ---- the headers in notes

-- whether the header of the number is in the notes of the component
abbrev pub noticed_at : ℕ → ℕ → List HeaderRecord → Bool
noticed_at k n hs = holds_at (option_map state_of (find_header n hs)) (is_in_notes_of k)

pub noted_same : (cs : List Component) (hs ks : List HeaderRecord) → ((k n : ℕ) → noticed_at k n ks ≡ noticed_at k n hs) → Noted cs hs → Noted cs ks
noted_same cs hs ks h N = λ i c e number. N i c e number ∙ ap weight (sym (h c.handle.generation number))

pub not_noticed : (k : ℕ) (owner : Owner) → is_set_aside owner ≡ false → is_notice_of k owner ≡ false
not_noticed k owners.Client h = refl
not_noticed k (owners.Port key) h = refl
not_noticed k (owners.Work c) h = absurd cc
not_noticed k (owners.Notice c) h = absurd cc

pub noticed_found : (k n : ℕ) (hs : List HeaderRecord) (r : HeaderRecord) → find_header n hs ≡ Some r → noticed_at k n hs ≡ is_notice_of k r.state.owner
noticed_found k n hs r e = rw e refl

pub noticed_none : (k n : ℕ) (hs : List HeaderRecord) → find_header n hs ≡ None → noticed_at k n hs ≡ false
noticed_none k n hs e = rw e refl

pub noticed_else : (k n : ℕ) (hs ks : List HeaderRecord) → find_header n ks ≡ find_header n hs → noticed_at k n ks ≡ noticed_at k n hs
noticed_else k n hs ks e = rw e refl

-- ---- one header changed

pub parts_replaced : (cs : List Component) (n : ℕ) (r s : HeaderRecord) (hs ks : List HeaderRecord) (numbered made : ℕ)
    → Parts cs hs numbered made → IsReplaced n r s hs ks → IsMadeAs r.state s.state → IsOwnedSo s.state s.state.owner → Noted cs ks → KeepsWorks hs ks → Parts cs ks numbered made
parts_replaced cs n r s hs ks numbered made P R M O N K = record {
  rising = P.rising;
  components = P.components;
  tied = tied_replaced (ports_in_list cs) n r s hs ks P.tied R M O;
  noted = N;
  works = works_kept cs hs ks K P.works;
  lawful = P.lawful;
  once = R.once;
  below = λ m x f. elim (cases_eq m n) [
    | inl e ↦ rw e (P.below n r R.was)
    | inr a ↦ P.below m x (sym (R.others m a) ∙ f)
  ];
}

-- neither of the two is in a note or in a work
noted_replaced : (cs : List Component) (n : ℕ) (r s : HeaderRecord) (hs ks : List HeaderRecord)
    → IsReplaced n r s hs ks → is_set_aside r.state.owner ≡ false → is_set_aside s.state.owner ≡ false → Noted cs hs → Noted cs ks
noted_replaced cs n r s hs ks R a b N = noted_same cs hs ks (λ k m. elim (cases_eq m n) [
  | inl e ↦ rw e (noticed_found k n ks s R.here ∙ (not_noticed k s.state.owner b ∙ sym (noticed_found k n hs r R.was ∙ not_noticed k r.state.owner a)))
  | inr d ↦ noticed_else k m hs ks (R.others m d)
]) N

pub not_in_work : (k : ℕ) (owner : Owner) → is_set_aside owner ≡ false → is_work_of k owner ≡ false
not_in_work k owners.Client h = refl
not_in_work k (owners.Port key) h = refl
not_in_work k (owners.Work c) h = absurd cc
not_in_work k (owners.Notice c) h = absurd cc

pub worked_found : (k n : ℕ) (hs : List HeaderRecord) (r : HeaderRecord) → find_header n hs ≡ Some r → worked_at k n hs ≡ is_work_of k r.state.owner
worked_found k n hs r e = rw e refl

pub worked_none : (k n : ℕ) (hs : List HeaderRecord) → find_header n hs ≡ None → worked_at k n hs ≡ false
worked_none k n hs e = rw e refl

pub work_is : (k : ℕ) (owner : Owner) → is_work_of k owner ≡ true → owner ≡ owners.Work k
work_is k owners.Client h = absurd cc
work_is k (owners.Port key) h = absurd cc
work_is k (owners.Work c) h = ap (λ (x : ℕ). owners.Work x) (eqb-true c k h)
work_is k (owners.Notice c) h = absurd cc

key_component : (k : ℕ) (o : Option PortKey) → is_key_of k o ≡ true → (key : PortKey) × (o ≡ Some key) × (key.component ≡ k)
key_component k None h = absurd cc
key_component k (Some key) h = (key, refl, eqb-true key.component k h)

-- a header in a work was made for a port of the work's component, which is there
pub worker_there : (cs : List Component) (hs : List HeaderRecord) (numbered made : ℕ) → Parts cs hs numbered made → (k n : ℕ) (r : HeaderRecord) → find_header n hs ≡ Some r → r.state.owner ≡ owners.Work k
    → (i : ℕ) × (c : Component) × (slice_get cs i ≡ Some c) × (number_of c ≡ k)
worker_there cs hs numbered made P k n r f o =
    let S = P.tied.placed n r f in
    let O : IsOwnedSo r.state (owners.Work k) = rw o at S.owner in
    let p = there_is (port_at r.state.port cs) (IsMadeFor r.state.peer) S.port in
    elim (or_cases (nat_eq r.state.port.component k) (is_key_of k r.state.peer) O.1) [
      | inl e ↦
          let h = has_port r.state.port cs p.0 p.1 in
          (h.place, h.component, h.there, h.number ∙ eqb-true r.state.port.component k e)
      | inr e ↦
          let key = key_component k r.state.peer e in
          let l = made_peer r.state.peer key.0 p.0 p.2 key.1 in
          let q = other_side (ports_in_list cs) hs r.state.port p.0 l.0 P.tied p.1 l.1 in
          let h = has_port (l.0).peer cs q.0 q.1 in
          (h.place, h.component, h.there, h.number ∙ (ap (λ (x : PortKey). x.component) l.2 ∙ key.2))
    ]

-- neither of the two is in a note or in a work
pub works_replaced : (n : ℕ) (r s : HeaderRecord) (hs ks : List HeaderRecord) → IsReplaced n r s hs ks → is_set_aside r.state.owner ≡ false → is_set_aside s.state.owner ≡ false → KeepsWorks hs ks
works_replaced n r s hs ks R a b = keeps_works_but n hs ks R.others (λ k. worked_found k n hs r R.was ∙ not_in_work k r.state.owner a) (λ k. worked_found k n ks s R.here ∙ not_in_work k s.state.owner b)

pub not_out : (spot : Spot) → spot_queue spot ≢ Out
not_out TodoBack e = cc
not_out TodoFront e = cc
not_out DoneBack e = cc

-- A header that is in no note and no work, and was made for the port, is put at a spot of the port.
pub parts_put : (cs : List Component) (key : PortKey) (spot : Spot) (change : HeaderRecord → HeaderRecord) (n : ℕ) (r : HeaderRecord) (hs : List HeaderRecord) (numbered made : ℕ)
    → ((x : HeaderRecord) → (change x).state ≡ x.state) → Parts cs hs numbered made → find_header n hs ≡ Some r → is_set_aside r.state.owner ≡ false → is_for key r.state ≡ true
    → Parts cs (put key spot n change hs) numbered made
parts_put cs key spot change n r hs numbered made keeps P f a b =
    let R = replaced_put key spot change (λ x. ap (λ s. s.number) (keeps x)) n hs r P.once f in
    let e = keeps r in
    let M : IsMadeAs r.state (put_at key spot (change r)).state = record { port = ap (λ s. s.port) e; peer = ap (λ s. s.peer) e; home = ap (λ s. s.home) e } in
    parts_replaced cs n r (put_at key spot (change r)) hs (put key spot n change hs) numbered made P R M
    (subst (λ (x : HeaderState). is_for key x ≡ true) (sym e) b, not_out spot)
    (noted_replaced cs n r (put_at key spot (change r)) hs (put key spot n change hs) R a refl P.noted)
    (works_replaced n r (put_at key spot (change r)) hs (put key spot n change hs) R a refl)

-- What a header carries is changed where it stands.
pub parts_loaded : (cs : List Component) (change : HeaderRecord → HeaderRecord) (n : ℕ) (hs : List HeaderRecord) (numbered made : ℕ)
    → ((x : HeaderRecord) → (change x).state ≡ x.state) → Parts cs hs numbered made → Parts cs (changed n change hs) numbered made
parts_loaded cs change n hs numbered made keeps P = elim (none_or_some (find_header n hs)) [
  | inl z ↦ rw (changed_nothing change (λ x. ap (λ s. s.number) (keeps x)) n hs z) P
  | inr x ↦
      let r = x.0 in
      let R = replaced_changed change (λ y. ap (λ s. s.number) (keeps y)) n hs r P.once x.1 in
      let e = keeps r in
      parts_replaced cs n r (change r) hs (changed n change hs) numbered made P R
      (record { port = ap (λ s. s.port) e; peer = ap (λ s. s.peer) e; home = ap (λ s. s.home) e })
      (subst (λ (y : HeaderState). IsOwnedSo y y.owner) (sym e) (P.tied.placed n r x.1).owner)
      (noted_same cs hs (changed n change hs) (λ k m. elim (cases_eq m n) [
        | inl q ↦ rw q (noticed_found k n (changed n change hs) (change r) R.here ∙ (ap (λ s. is_notice_of k s.owner) e ∙ sym (noticed_found k n hs r x.1)))
        | inr d ↦ noticed_else k m hs (changed n change hs) (R.others m d)
      ]) P.noted)
      (keeps_works_seen hs (changed n change hs) (λ m. elim (cases_eq m n) [
        | inl q ↦ rw q (ap (option_map state_of) R.here ∙ (ap (λ (y : HeaderState). Some y) e ∙ sym (ap (option_map state_of) x.1)))
        | inr d ↦ ap (option_map state_of) (R.others m d)
      ]))
]

-- ---- one header less

pub parts_without : (cs : List Component) (n : ℕ) (r : HeaderRecord) (hs : List HeaderRecord) (numbered made : ℕ)
    → Parts cs hs numbered made → find_header n hs ≡ Some r → is_set_aside r.state.owner ≡ false → Parts cs (without n hs) numbered made
parts_without cs n r hs numbered made P f a = record {
  rising = P.rising;
  components = P.components;
  tied = tied_without (ports_in_list cs) n r hs P.tied P.once f;
  noted = noted_same cs hs (without n hs) (λ k m. elim (cases_eq m n) [
    | inl e ↦ rw e (noticed_none k n (without n hs) (without_same n hs P.once) ∙ sym (noticed_found k n hs r f ∙ not_noticed k r.state.owner a))
    | inr d ↦ noticed_else k m hs (without n hs) (without_else n m hs d)
  ]) P.noted;
  works = works_kept cs hs (without n hs)
      (keeps_works_but n hs (without n hs) (λ m d. without_else n m hs d) (λ k. worked_found k n hs r f ∙ not_in_work k r.state.owner a) (λ k. worked_none k n (without n hs) (without_same n hs P.once)))
      P.works;
  lawful = P.lawful;
  once = once_without n hs P.once;
  below = λ m x g. elim (cases_eq m n) [
    | inl e ↦ let b : find_header n (without n hs) ≡ Some x = rw e at g in let z = without_same n hs P.once in absurd cc
    | inr d ↦ P.below m x (sym (without_else n m hs d) ∙ g)
  ];
}

-- ---- one header more, of the next number

fresh_number : (cs : List Component) (hs : List HeaderRecord) (numbered made : ℕ) → Parts cs hs numbered made → find_header made hs ≡ None
fresh_number cs hs numbered made P = elim (none_or_some (find_header made hs)) [
  | inl z ↦ z
  | inr x ↦ let b = P.below made x.0 x.1 in absurd (omega arith)
]

pub parts_push : (cs : List Component) (r : HeaderRecord) (hs : List HeaderRecord) (numbered made : ℕ)
    → Parts cs hs numbered made → r.state.number ≡ made → is_set_aside r.state.owner ≡ false → IsSet (ports_in_list cs) r.state
    → ((key : PortKey) (p : Port) → ports_in_list cs key ≡ Some p → is_for key r.state ≡ true → count_headers (is_for key) hs < p.setting.definition.count)
    → Parts cs (hs ++ r ∷ []) numbered (made + 1)
parts_push cs r hs numbered made P n a S C =
    let z : find_header r.state.number hs ≡ None = rw n (fresh_number cs hs numbered made P) in
    record {
      rising = P.rising;
      components = P.components;
      tied = tied_push (ports_in_list cs) r hs P.tied z S C;
      noted = noted_same cs hs (hs ++ r ∷ []) (λ k m. elim (cases_eq r.state.number m) [
        | inl e ↦ rw (← e) (noticed_found k r.state.number (hs ++ r ∷ []) r (push_last hs r z) ∙ (not_noticed k r.state.owner a ∙ sym (noticed_none k r.state.number hs z)))
        | inr d ↦ noticed_else k m hs (hs ++ r ∷ []) (push_else m hs r d)
      ]) P.noted;
      works = works_kept cs hs (hs ++ r ∷ [])
          (keeps_works_but r.state.number hs (hs ++ r ∷ []) (λ m d. push_else m hs r (λ e. d (sym e))) (λ k. worked_none k r.state.number hs z)
          (λ k. worked_found k r.state.number (hs ++ r ∷ []) r (push_last hs r z) ∙ not_in_work k r.state.owner a))
          P.works;
      lawful = P.lawful;
      once = once_push hs r P.once z;
      below = λ m x g. elim (cases_eq r.state.number m) [
        | inl e ↦ omega (arith, e, n)
        | inr d ↦ let b = P.below m x (sym (push_else m hs r d) ∙ g) in omega arith
      ];
    }
