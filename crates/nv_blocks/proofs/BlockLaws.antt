-- Ranges of blocks in a namespace's data.
use Rattle.std.proofs.Common.{ℕ, ◌+◌, ◌*◌, ◌/◌, ◌<◌, ◌≤◌, arith}
use Rattle.std.proofs.Math.Nat.{mul-le-mul_left}

-- the bytes of blocks that lie within the blocks of some bytes lie within these bytes
pub blocks_inside : (size block_size first count : ℕ) → 0 < block_size → first + count ≤ size / block_size
    → first * block_size + count * block_size ≤ size
blocks_inside size block_size first count some within =
    let all : block_size * (first + count) ≤ block_size * (size / block_size) =
    mul-le-mul_left block_size within in
    grind arith
