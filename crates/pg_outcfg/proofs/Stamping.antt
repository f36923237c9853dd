-- A head by its front and its stamp, and its check by what each adds.
use Rattle.std.proofs.Common.{◌≡◌, ℕ, zero, suc, ◌-◌, ◌*◌, ◌^◌, ◌<◌, List, [], ◌++◌, length, get_or, sym, ap, ◌∙◌, subst, lit<}
use Rattle.std.specs.Int.Bits.{xor_zero_l, xor_zero_r}
use Rattle.std.proofs.Math.Nat.{zero-mul}
use Rattle.pg_wire.specs.Heads.{start_of}
use Rattle.pg_wire.specs.Check.{◌⊕◌, IsRemainder, dividend_from, dividend}
use Rattle.pg_wire.proofs.Remainders.{IsRemainder-xor}
use Rattle.pg_wire.proofs.Slicing.{lifted, dividend-append}
use Rattle.pg_stream.specs.declared.definition.Definition.{Definition}
use Rattle.pg_stream.specs.Slots.{stamp_at}
use Rattle.pg_outcfg.specs.HeadPrefixes.{HeadPrefixValue, prefix_bytes, no_stamp}
use Rattle.pg_outcfg.specs.Stamped.{stamp_bytes}
use Rattle.pg_outcfg.specs.Frames.{data_heading}

zero_fits : (i : ℕ) → get_or no_stamp i 0 < 256
zero_fits zero = lit< tt
zero_fits (suc zero) = lit< tt
zero_fits (suc (suc zero)) = lit< tt
zero_fits (suc (suc (suc zero))) = lit< tt
zero_fits (suc (suc (suc (suc zero)))) = lit< tt
zero_fits (suc (suc (suc (suc (suc zero))))) = lit< tt
zero_fits (suc (suc (suc (suc (suc (suc zero)))))) = lit< tt
zero_fits (suc (suc (suc (suc (suc (suc (suc zero))))))) = lit< tt
zero_fits (suc (suc (suc (suc (suc (suc (suc (suc i)))))))) = lit< tt

-- what is left of a front that stands eight bytes up, and of the eight bytes alone
pub IsRemainder-stamped : (front stamp : List ℕ) (r s : ℕ) → length stamp ≡ 8 → ((i : ℕ) → get_or stamp i 0 < 256)
    → IsRemainder (dividend (front ++ no_stamp)) r → IsRemainder (dividend_from 0 stamp) s → IsRemainder (dividend (front ++ stamp)) (r ⊕ s)
IsRemainder-stamped front stamp r s long octets up alone =
    let start = 2 ^ 16 - 1 in
    let raised : IsRemainder (dividend front * 2 ^ 64) r =
    subst (λ x. IsRemainder x r) (dividend-append start front no_stamp zero_fits ∙ xor_zero_r (dividend front * 2 ^ 64)) up in
    let own : dividend_from 0 stamp ≡ lifted stamp =
    dividend-append 0 [] stamp octets ∙ ap (λ x. x ⊕ lifted stamp) (zero-mul (2 ^ (8 * length stamp))) ∙ xor_zero_l (lifted stamp) in
    let whole : dividend (front ++ stamp) ≡ dividend front * 2 ^ 64 ⊕ lifted stamp =
    dividend-append start front stamp octets ∙ ap (λ n. dividend front * 2 ^ (8 * n) ⊕ lifted stamp) long in
    subst (λ x. IsRemainder x (r ⊕ s)) (sym whole)
    (IsRemainder-xor (dividend front * 2 ^ 64) (lifted stamp) r s raised (subst (λ x. IsRemainder x s) own alone))

-- the head of a slot's frame
pub started : (d : Definition) (slot quality : ℕ) (front : HeadPrefixValue) (stamp : List ℕ) → front.id ≡ d.stream
    → stamp ≡ stamp_bytes (stamp_at d.rate d.base slot) quality → prefix_bytes front ++ stamp ≡ start_of (data_heading d slot quality) front.size
started d slot quality front stamp id is =
    ap (λ n. prefix_bytes (record { id = n; size = front.size }) ++ stamp) id
    ∙ ap (λ s. prefix_bytes (record { id = d.stream; size = front.size }) ++ s) is
