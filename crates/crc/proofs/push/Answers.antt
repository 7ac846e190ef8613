-- `crc::push` meets its contract: the word that leaves is folded onto those behind it. Assumes nothing.
use mathlib.Core.Path.{sym, ap, ap₂, ◌∙◌}
use Prim.Native.Nat.{ℕ, ◌<◌, ◌^◌}
use native.Mathlib.Omega.{arith}
use lib.ListN.{get_or}
use lib.Bits.{bit_xor, xor_lt}
use Rattle.crc.specs.Crc.{shifts, bytes_in}
use Rattle.crc.specs.Words.{above, number}
use Rattle.crc.proofs.Words.{above_low}
use Rattle.crc.proofs.Fold.{near-words, near_folded}
use Rattle.crc.proofs.Parts.{all_bytes, word_bytes, number_five}
use Rattle.crc.proofs.push.Goals as goal

pub returns : goal.returns
returns c bs f =
    let p = c.args.p.now in
    let w = c.args.w.now in
    let v = c.word_of.result in
    let a = get_or p 0 0 in
    let h = above 64 (get_or p 1 0) (above 64 (get_or p 2 0) (above 64 (get_or p 3 0) (above 64 (get_or p 4 0) 0))) in
    let l : bit_xor a v < 2 ^ 64 = xor_lt 64 a v (c.fits-p 0) (omega arith) in
    ap (λ (r : ℕ). bytes_in r bs) (near-words (bit_xor a v) l (get_or p 1 0) (get_or p 2 0) (get_or p 3 0) (get_or p 4 0))
    ∙ near_folded (bit_xor a v) h l bs f
    ∙ ap (λ (r : ℕ). bytes_in r bs)
    (ap (shifts 64) (sym (above_low 64 a h v) ∙ ap₂ bit_xor (sym (number_five p (omega arith))) c.word_of.ensures) ∙ sym (word_bytes w (number p) c.told-w (all_bytes w c.fits-w)))
