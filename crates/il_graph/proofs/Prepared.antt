-- A part on which all is set that is set of its component has the component's terms.
use Rattle.std.proofs.Common.{◌≡◌, ℕ, suc, zero, ◌+◌, ◌-◌, ◌<◌, ◌≤◌, true, false, List, [], ◌∷◌, ◌++◌, length, take, drop, set, if◌then◌else◌, refl, sym, ◌∙◌, ap, append-nil, append_assoc, length-append, length-set, ltb-true, ltb-false, arith}
use Rattle.omx_types.specs.declared.format.Format.{Format}
use Rattle.part_api.specs.Terms.{Terms}
use Rattle.il_machine.specs.declared.port.PortSetting.{PortSetting}
use Rattle.il_machine.specs.Settings.{formats_of}
use Rattle.audio_parts.specs.Kinds.{is_input, with_format}
use Rattle.audio_parts.specs.Shown.{ShownPart}
use Rattle.il_graph.specs.Preparing.{with_factors, with_formats, with_input_factor, with_port_format}

-- ---- lists

take_set : {A : Type 0} (xs : List A) (i : ℕ) (x : A) → i < length xs → take (i + 1) (set xs i x) ≡ take i xs ++ x ∷ []
take_set [] i x b = absurd (omega arith)
take_set (y ∷ ys) zero x b = refl
take_set (y ∷ ys) (suc i) x b = let n : suc i + 1 ≡ suc (i + 1) = omega arith in rw n (ap (λ zs. y ∷ zs) (take_set ys i x (omega arith)))

set_front : {A : Type 0} (xs ys : List A) (i : ℕ) (x : A) → i < length xs → set (xs ++ ys) i x ≡ set xs i x ++ ys
set_front [] ys i x b = absurd (omega arith)
set_front (z ∷ xs) ys zero x b = refl
set_front (z ∷ xs) ys (suc i) x b = ap (λ zs. z ∷ zs) (set_front xs ys i x (omega arith))

set_back : {A : Type 0} (xs ys : List A) (i : ℕ) (x : A) → length xs ≤ i → set (xs ++ ys) i x ≡ xs ++ set ys (i - length xs) x
set_back [] ys i x b = let n : i - 0 ≡ i = omega arith in rw n refl
set_back (z ∷ xs) ys zero x b = absurd (omega arith)
set_back (z ∷ xs) ys (suc i) x b = let n : suc i - suc (length xs) ≡ i - length xs = omega arith in rw n (ap (λ zs. z ∷ zs) (set_back xs ys i x (omega arith)))

take_over : {A : Type 0} (xs ys : List A) → take (length xs) (xs ++ ys) ≡ xs
take_over [] ys = refl
take_over (x ∷ xs) ys = ap (λ zs. x ∷ zs) (take_over xs ys)

drop_over : {A : Type 0} (xs ys : List A) → drop (length xs) (xs ++ ys) ≡ ys
drop_over [] ys = refl
drop_over (x ∷ xs) ys = drop_over xs ys

take_whole : {A : Type 0} (xs : List A) → take (length xs) xs ≡ xs
take_whole [] = refl
take_whole (x ∷ xs) = ap (λ zs. x ∷ zs) (take_whole xs)

-- ---- formats

abbrev pub all_of : Terms → List Format
all_of t = t.inputs ++ t.outputs

set_all : (t : Terms) (port : ℕ) (f : Format) → port < length t.inputs + length t.outputs → all_of (with_format t port f) ≡ set (all_of t) port f
set_all t port f b = elim (is_input t port) as (λ b. is_input t port ≡ b → all_of (with_format t port f) ≡ set (all_of t) port f) [
  | true ↦ λ e. rw e (sym (set_front t.inputs t.outputs port f (ltb-true port (length t.inputs) e)))
  | false ↦ λ e. rw e (sym (set_back t.inputs t.outputs port f (ltb-false port (length t.inputs) e)))
] refl

-- as many ports
pub inputs_kept : (t : Terms) (port : ℕ) (f : Format) → length (with_format t port f).inputs ≡ length t.inputs
inputs_kept t port f = elim (is_input t port) as (λ b. length (if b then set t.inputs port f else t.inputs) ≡ length t.inputs) [
  | true ↦ length-set t.inputs port f
  | false ↦ refl
]

pub outputs_kept : (t : Terms) (port : ℕ) (f : Format) → length (with_format t port f).outputs ≡ length t.outputs
outputs_kept t port f = elim (is_input t port) as (λ b. length (if b then t.outputs else set t.outputs (port - length t.inputs) f) ≡ length t.outputs) [
  | true ↦ refl
  | false ↦ length-set t.outputs (port - length t.inputs) f
]

module _ {S K : Type 0} where
  -- nothing but the formats is changed
  pub record OnlyFormats (p q : ShownPart S K) : Type 0 where
    pub kind : q.terms.kind ≡ p.terms.kind
    pub factors : q.terms.factors ≡ p.terms.factors
    pub record_is : q.terms.file ≡ p.terms.file
    pub inputs : length q.terms.inputs ≡ length p.terms.inputs
    pub outputs : length q.terms.outputs ≡ length p.terms.outputs
    pub failed : q.failed ≡ p.failed
    pub left : q.left ≡ p.left
    pub rest : q.rest ≡ p.rest
    pub kept : q.kept ≡ p.kept
    pub file : q.file ≡ p.file

  pub only_formats : (port : ℕ) (ss : List PortSetting) (p : ShownPart S K) → OnlyFormats p (with_formats port ss p)
  only_formats port [] p = record { kind = refl; factors = refl; record_is = refl; inputs = refl; outputs = refl; failed = refl; left = refl; rest = refl; kept = refl; file = refl }
  only_formats port (s ∷ ss) p =
      let O = only_formats (port + 1) ss (with_port_format port s.definition.format p) in
      record {
        kind = O.kind;
        factors = O.factors;
        record_is = O.record_is;
        inputs = O.inputs ∙ inputs_kept p.terms port s.definition.format;
        outputs = O.outputs ∙ outputs_kept p.terms port s.definition.format;
        failed = O.failed;
        left = O.left;
        rest = O.rest;
        kept = O.kept;
        file = O.file;
      }

  formats_set : (port : ℕ) (ss : List PortSetting) (p : ShownPart S K) → port + length ss ≡ length p.terms.inputs + length p.terms.outputs
      → all_of (with_formats port ss p).terms ≡ take port (all_of p.terms) ++ formats_of ss
  formats_set port [] p e =
      let n : port ≡ length (all_of p.terms) = omega (arith, e, length-append p.terms.inputs p.terms.outputs) in
      rw (n, take_whole (all_of p.terms)) (sym (append-nil (all_of p.terms)))
  formats_set port (s ∷ ss) p e =
      let f = s.definition.format in
      let q = with_port_format port f p in
      let b : port < length p.terms.inputs + length p.terms.outputs = omega (arith, e) in
      let m : port + 1 + length ss ≡ length q.terms.inputs + length q.terms.outputs = omega (arith, e, inputs_kept p.terms port f, outputs_kept p.terms port f) in
      let d : port < length (all_of p.terms) = omega (arith, b, length-append p.terms.inputs p.terms.outputs) in
      formats_set (port + 1) ss q m
      ∙ (ap (λ xs. take (port + 1) xs ++ formats_of ss) (set_all p.terms port f b)
      ∙ (ap (λ xs. xs ++ formats_of ss) (take_set (all_of p.terms) port f d)
      ∙ append_assoc (take port (all_of p.terms)) (f ∷ []) (formats_of ss)))

  -- all formats are those that were set
  pub inputs_set : (ss : List PortSetting) (p : ShownPart S K) → length ss ≡ length p.terms.inputs + length p.terms.outputs → (with_formats 0 ss p).terms.inputs ≡ take (length p.terms.inputs) (formats_of ss)
  inputs_set ss p e =
      let t = (with_formats 0 ss p).terms in
      sym (take_over t.inputs t.outputs) ∙ (ap (λ n. take n (all_of t)) (only_formats 0 ss p).inputs ∙ ap (take (length p.terms.inputs)) (formats_set 0 ss p (omega (arith, e))))

  pub outputs_set : (ss : List PortSetting) (p : ShownPart S K) → length ss ≡ length p.terms.inputs + length p.terms.outputs → (with_formats 0 ss p).terms.outputs ≡ drop (length p.terms.inputs) (formats_of ss)
  outputs_set ss p e =
      let t = (with_formats 0 ss p).terms in
      sym (drop_over t.inputs t.outputs) ∙ (ap (λ n. drop n (all_of t)) (only_formats 0 ss p).inputs ∙ ap (drop (length p.terms.inputs)) (formats_set 0 ss p (omega (arith, e))))

  -- ---- factors

  pub record OnlyFactors (p q : ShownPart S K) : Type 0 where
    pub kind : q.terms.kind ≡ p.terms.kind
    pub inputs : q.terms.inputs ≡ p.terms.inputs
    pub outputs : q.terms.outputs ≡ p.terms.outputs
    pub record_is : q.terms.file ≡ p.terms.file
    pub writing : q.writing ≡ p.writing
    pub failed : q.failed ≡ p.failed
    pub left : q.left ≡ p.left
    pub rest : q.rest ≡ p.rest
    pub kept : q.kept ≡ p.kept
    pub file : q.file ≡ p.file

  pub only_factors : (input : ℕ) (xs : List ℕ) (p : ShownPart S K) → OnlyFactors p (with_factors input xs p)
  only_factors input [] p = record { kind = refl; inputs = refl; outputs = refl; record_is = refl; writing = refl; failed = refl; left = refl; rest = refl; kept = refl; file = refl }
  only_factors input (x ∷ xs) p =
      let O = only_factors (input + 1) xs (with_input_factor input x p) in
      record { kind = O.kind; inputs = O.inputs; outputs = O.outputs; record_is = O.record_is; writing = O.writing; failed = O.failed; left = O.left; rest = O.rest; kept = O.kept; file = O.file }

  factors_from : (input : ℕ) (xs : List ℕ) (p : ShownPart S K) → input + length xs ≡ length p.terms.factors → (with_factors input xs p).terms.factors ≡ take input p.terms.factors ++ xs
  factors_from input [] p e =
      let n : input ≡ length p.terms.factors = omega (arith, e) in
      rw (n, take_whole p.terms.factors) (sym (append-nil p.terms.factors))
  factors_from input (x ∷ xs) p e =
      let q = with_input_factor input x p in
      let b : input < length p.terms.factors = omega (arith, e) in
      let m : input + 1 + length xs ≡ length q.terms.factors = let z = length-set p.terms.factors input x in omega (arith, e, z) in
      factors_from (input + 1) xs q m
      ∙ (ap (λ ys. ys ++ xs) (take_set p.terms.factors input x b)
      ∙ append_assoc (take input p.terms.factors) (x ∷ []) xs)

  pub factors_set : (xs : List ℕ) (p : ShownPart S K) → length xs ≡ length p.terms.factors → (with_factors 0 xs p).terms.factors ≡ xs
  factors_set xs p e = factors_from 0 xs p (omega (arith, e))
