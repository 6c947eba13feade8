use Rattle.std.proofs.Common.{◌≡◌, ◌∙◌, ℕ, ◌*◌, ◌%◌, ◌^◌, ◌<◌, ◌≤◌, ap, arith}
use Rattle.std.proofs.Math.Nat.{mul-le-mul_left, pow-le-pow_right}
use Rattle.nv_subsystem.proofs.Words.{option_map_or}
use Rattle.nv_subsystem.proofs.subsystem.Subsystem.bytes_needed.Goals as goal

-- a number of 64 bits, shifted by at most 16
no_bit_lost : (n k : ℕ) → n < 2 ^ 64 → k ≤ 16 → n * 2 ^ k % 2 ^ 128 ≡ n * 2 ^ k
no_bit_lost n k h few =
    let most : 2 ^ k ≤ 2 ^ 16 = pow-le-pow_right (omega arith) few in
    let small : n * 2 ^ k ≤ n * 2 ^ 16 = mul-le-mul_left n most in
    omega arith

pub returns-in-Some : goal.returns-in-Some
returns-in-Some c =
    let f = c.in-Some.format in
    rw c.from.ensures
    (no_bit_lost c.args.wanted.now.nsze f.lbads (omega arith) c.in-Some.ensures.small
    ∙ ap (λ o. option_map_or (λ f. c.args.wanted.now.nsze * 2 ^ f.lbads) o 0)
    c.in-Some.ensures.value)
