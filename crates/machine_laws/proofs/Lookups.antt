-- Ports by their keys, in the list of components whose numbers rise.
use Rattle.std.proofs.Common.{◌≡◌, ◌≢◌, ℕ, zero, suc, ◌+◌, ◌≤◌, ◌<◌, true, false, cond, List, [], ◌∷◌, ◌++◌, set, remove, slice_get, Option, Some, None, option_map, option_and_then, refl, sym, ◌∙◌, ap, eqb-true, eq-eqb, ne_eqb, arith}
use Rattle.il_machine.specs.declared.port.PortKey.{PortKey}
use Rattle.il_machine.specs.declared.port.Port.{Port}
use Rattle.il_machine.specs.declared.port.PortSetting.{PortSetting}
use Rattle.il_machine.specs.declared.port.PortState.{PortState}
use Rattle.il_machine.specs.World.{Component, number_of, is_numbered, place_numbered, ports_from, port_of}
use Rattle.il_machine.specs.Places.{first_place}
use Rattle.il_machine.specs.Flow.{End, end_in, end_at}
use Rattle.il_machine.specs.Sound.{AreRising, port_at}
use Rattle.il_machine.proofs.Places.{is_first_place}
use Rattle.machine_laws.proofs.Finding.{either}
use Rattle.machine_laws.proofs.Every.{set_there}

-- ---- numbers that rise

rises_below : (from next : ℕ) (cs : List Component) → AreRising from cs next → from ≤ next
rises_below from next [] R = R
rises_below from next (x ∷ cs) R = omega (arith, R.0, rises_below (suc (number_of x)) next cs R.1)

pub rises_at : (from next i : ℕ) (cs : List Component) (c : Component) → AreRising from cs next → slice_get cs i ≡ Some c → (from ≤ number_of c) × (number_of c < next)
rises_at from next i [] c R e = absurd cc
rises_at from next zero (x ∷ cs) c R e = let s : x ≡ c = cc in let b = rises_below (suc (number_of x)) next cs R.1 in rw (← s) (R.0, b)
rises_at from next (suc i) (x ∷ cs) c R e = let r = rises_at (suc (number_of x)) next i cs c R.1 e in (omega (arith, R.0, r.0), r.1)

pub same_place : (from next i j : ℕ) (cs : List Component) (c d : Component) → AreRising from cs next → slice_get cs i ≡ Some c → slice_get cs j ≡ Some d → number_of c ≡ number_of d → i ≡ j
same_place from next i j [] c d R e f n = absurd cc
same_place from next zero zero (x ∷ cs) c d R e f n = refl
same_place from next zero (suc j) (x ∷ cs) c d R e f n =
    let s : x ≡ c = cc in
    let r = rises_at (suc (number_of x)) next j cs d R.1 f in
    let m : number_of x ≡ number_of d = ap number_of s ∙ n in
    absurd (omega (arith, r.0, m))
same_place from next (suc i) zero (x ∷ cs) c d R e f n =
    let s : x ≡ d = cc in
    let r = rises_at (suc (number_of x)) next i cs c R.1 e in
    let m : number_of c ≡ number_of x = n ∙ sym (ap number_of s) in
    absurd (omega (arith, r.0, m))
same_place from next (suc i) (suc j) (x ∷ cs) c d R e f n = ap suc (same_place (suc (number_of x)) next i j cs c d R.1 e f n)

pub rising_set : (from next i : ℕ) (cs : List Component) (c d : Component) → AreRising from cs next → slice_get cs i ≡ Some c → number_of d ≡ number_of c → AreRising from (set cs i d) next
rising_set from next i [] c d R e n = absurd cc
rising_set from next zero (x ∷ cs) c d R e n = let s : x ≡ c = cc in let m : number_of d ≡ number_of x = n ∙ sym (ap number_of s) in rw m R
rising_set from next (suc i) (x ∷ cs) c d R e n = (R.0, rising_set (suc (number_of x)) next i cs c d R.1 e n)

pub rising_push : (from next : ℕ) (cs : List Component) (d : Component) → AreRising from cs next → number_of d ≡ next → AreRising from (cs ++ d ∷ []) (next + 1)
rising_push from next [] d R n = (omega (arith, R, n), omega (arith, n))
rising_push from next (x ∷ cs) d R n = (R.0, rising_push (suc (number_of x)) next cs d R.1 n)

rising_weaker : (low from next : ℕ) (cs : List Component) → low ≤ from → AreRising from cs next → AreRising low cs next
rising_weaker low from next [] l R = omega (arith, l, R)
rising_weaker low from next (x ∷ cs) l R = (omega (arith, l, R.0), R.1)

pub rising_remove : (from next i : ℕ) (cs : List Component) → AreRising from cs next → AreRising from (remove cs i) next
rising_remove from next zero [] R = R
rising_remove from next (suc i) [] R = R
rising_remove from next zero (x ∷ cs) R = rising_weaker from (suc (number_of x)) next cs (omega (arith, R.0)) R.1
rising_remove from next (suc i) (x ∷ cs) R = (R.0, rising_remove (suc (number_of x)) next i cs R.1)

-- ---- the port of a key

abbrev seek : PortKey → List Component → Option Port
seek key [] = None
seek key (c ∷ cs) = cond (is_numbered key.component c) (port_of c key.port) (seek key cs)

abbrev port_in : ℕ → List Component → ℕ → Option Port
port_in index cs i = option_and_then (λ c. port_of c index) (slice_get cs i)

mapped_back : (i : ℕ) (c : Component) (o : Option Port) → option_map (λ (e : End). e.port) (option_map (λ (p : Port). record { place = i; component = c; port = p }) o) ≡ o
mapped_back i c None = refl
mapped_back i c (Some p) = refl

mapped_end : (index i : ℕ) (o : Option Component) → option_map (λ e. e.port) (option_and_then (end_at index i) o) ≡ option_and_then (λ c. port_of c index) o
mapped_end index i None = refl
mapped_end index i (Some c) = mapped_back i c (port_of c index)

mapped_place : (index : ℕ) (cs : List Component) (o : Option ℕ) → option_map (λ e. e.port) (option_and_then (end_in cs index) o) ≡ option_and_then (port_in index cs) o
mapped_place index cs None = refl
mapped_place index cs (Some i) = mapped_end index i (slice_get cs i)

one_further : (index : ℕ) (c : Component) (cs : List Component) (o : Option ℕ) → option_and_then (port_in index (c ∷ cs)) (option_map suc o) ≡ option_and_then (port_in index cs) o
one_further index c cs None = refl
one_further index c cs (Some i) = refl

sought : (key : PortKey) (cs : List Component) → option_and_then (port_in key.port cs) (first_place (is_numbered key.component) cs) ≡ seek key cs
sought key [] = refl
sought key (c ∷ cs) = either (is_numbered key.component c)
    (λ t. rw t refl)
    (λ f. rw f (one_further key.port c cs (first_place (is_numbered key.component) cs) ∙ sought key cs))

port_at_seeks : (key : PortKey) (cs : List Component) → port_at key cs ≡ seek key cs
port_at_seeks key cs = mapped_place key.port cs (place_numbered key.component cs) ∙ (ap (option_and_then (port_in key.port cs)) (is_first_place (is_numbered key.component) cs) ∙ sought key cs)

seek_at : (from next i : ℕ) (key : PortKey) (cs : List Component) (c : Component) → AreRising from cs next → slice_get cs i ≡ Some c → number_of c ≡ key.component → seek key cs ≡ port_of c key.port
seek_at from next i key [] c R e n = absurd cc
seek_at from next zero key (x ∷ cs) c R e n =
    let s : x ≡ c = cc in
    let t : is_numbered key.component x ≡ true = eq-eqb (number_of x) key.component (ap number_of s ∙ n) in
    rw (t, s) refl
seek_at from next (suc i) key (x ∷ cs) c R e n =
    let r = rises_at (suc (number_of x)) next i cs c R.1 e in
    let f : is_numbered key.component x ≡ false = ne_eqb (number_of x) key.component (λ k. omega (arith, r.0, k, n)) in
    rw f (seek_at (suc (number_of x)) next i key cs c R.1 e n)

-- the component that has the port of a key
pub record HasPort (cs : List Component) (key : PortKey) (p : Port) : Type 0 where
  pub place : ℕ
  pub component : Component
  pub there : slice_get cs place ≡ Some component
  pub number : number_of component ≡ key.component
  pub port : port_of component key.port ≡ Some p

seek_has : (key : PortKey) (cs : List Component) (p : Port) → seek key cs ≡ Some p → HasPort cs key p
seek_has key [] p e = absurd cc
seek_has key (c ∷ cs) p e = either (is_numbered key.component c)
    (λ t. record { place = 0; component = c; there = refl; number = eqb-true _ _ t; port = rw t at e })
    (λ f. let h = seek_has key cs p (rw f at e) in record { place = suc h.place; component = h.component; there = h.there; number = h.number; port = h.port })

pub has_port : (key : PortKey) (cs : List Component) (p : Port) → port_at key cs ≡ Some p → HasPort cs key p
has_port key cs p e = seek_has key cs p (sym (port_at_seeks key cs) ∙ e)

pub port_at_is : (next i : ℕ) (key : PortKey) (cs : List Component) (c : Component) → AreRising 0 cs next → slice_get cs i ≡ Some c → number_of c ≡ key.component → port_at key cs ≡ port_of c key.port
port_at_is next i key cs c R e n = port_at_seeks key cs ∙ seek_at 0 next i key cs c R e n

-- ---- what a port is made of

pub record IsPortOf (c : Component) (index : ℕ) (p : Port) : Type 0 where
  pub key : p.key ≡ record { component = number_of c; port = index }
  pub setting : slice_get c.settings.ports index ≡ Some p.setting
  pub state : slice_get c.ports index ≡ Some p.state

port_from : (number index i : ℕ) (ss : List PortSetting) (ps : List PortState) (p : Port) → slice_get (ports_from number index ss ps) i ≡ Some p
    → (p.key ≡ record { component = number; port = index + i }) × (slice_get ss i ≡ Some p.setting) × (slice_get ps i ≡ Some p.state)
port_from number index i [] ps p e = absurd cc
port_from number index i (s ∷ ss) [] p e = absurd cc
port_from number index zero (s ∷ ss) (x ∷ ps) p e =
    let q : Port = record { key = record { component = number; port = index }; setting = s; state = x } in
    let a : Some q ≡ Some p = e in
    let b : q ≡ p = cc in
    let z : index + 0 ≡ index = omega arith in
    rw (z, ← b) (refl, refl, refl)
port_from number index (suc i) (s ∷ ss) (x ∷ ps) p e = let r = port_from number (index + 1) i ss ps p e in let z : index + suc i ≡ index + 1 + i = omega arith in rw z r

pub port_parts : (c : Component) (index : ℕ) (p : Port) → port_of c index ≡ Some p → IsPortOf c index p
port_parts c index p e =
    let r = port_from (number_of c) 0 index c.settings.ports c.ports p e in
    let z : 0 + index ≡ index = omega arith in
    record { key = rw z at r.0; setting = r.1; state = r.2 }

-- a port of a component of the list is the one of its key
pub port_there_at : (next i : ℕ) (cs : List Component) (c : Component) (index : ℕ) (p : Port) → AreRising 0 cs next → slice_get cs i ≡ Some c → port_of c index ≡ Some p → port_at p.key cs ≡ Some p
port_there_at next i cs c index p R e f =
    let is = port_parts c index p f in
    ap (λ (k : PortKey). port_at k cs) is.key ∙ (port_at_is next i (record { component = number_of c; port = index }) cs c R e refl ∙ f)

-- ---- one component in place of another of the same number

seek_set_else : (key : PortKey) (i : ℕ) (cs : List Component) (c d : Component) → slice_get cs i ≡ Some c → number_of d ≡ number_of c → number_of c ≢ key.component → seek key (set cs i d) ≡ seek key cs
seek_set_else key i [] c d e n a = absurd cc
seek_set_else key zero (x ∷ cs) c d e n a =
    let s : x ≡ c = cc in
    let f : is_numbered key.component x ≡ false = ne_eqb (number_of x) key.component (λ k. a (sym (ap number_of s) ∙ k)) in
    let g : is_numbered key.component d ≡ false = ne_eqb (number_of d) key.component (λ k. a (sym n ∙ k)) in
    rw (f, g) refl
seek_set_else key (suc i) (x ∷ cs) c d e n a = either (is_numbered key.component x) (λ t. rw t refl) (λ f. rw f (seek_set_else key i cs c d e n a))

pub port_at_set_else : (key : PortKey) (i : ℕ) (cs : List Component) (c d : Component) → slice_get cs i ≡ Some c → number_of d ≡ number_of c → number_of c ≢ key.component → port_at key (set cs i d) ≡ port_at key cs
port_at_set_else key i cs c d e n a = port_at_seeks key (set cs i d) ∙ (seek_set_else key i cs c d e n a ∙ sym (port_at_seeks key cs))

pub port_at_set : (next : ℕ) (key : PortKey) (i : ℕ) (cs : List Component) (c d : Component) → AreRising 0 cs next → slice_get cs i ≡ Some c → number_of d ≡ number_of c → number_of c ≡ key.component → port_at key (set cs i d) ≡ port_of d key.port
port_at_set next key i cs c d R e n a = port_at_is next i key (set cs i d) d (rising_set 0 next i cs c d R e n) (set_there cs i c d e) (n ∙ a)
