-- The masks of the registers of which some bits are fixed.
use Rattle.std.proofs.Common.{cond, false, refl, arith, ◌&&◌}
use Rattle.ppc_bits.specs.Bits.{bit, is_among}
use Rattle.ppc_spr.specs.Profile as msr
use Rattle.ppc_spr.specs.Lpcr as lpcr
use Rattle.ppc_spr.proofs.Bitwise.{same_below}
use Rattle.ppc_spr.proofs.FixedBits.{IsMask}

pub msr_mask : IsMask msr.ones msr.free 0xefff_ffff_ffff_2fcd 0x8000_0000_0000_0001
msr_mask = record {
  fixed = same_below (λ i. bit 64 0xefff_ffff_ffff_2fcd i) (λ i. cond (is_among msr.free i) 0 1) 64 refl;
  one = same_below (λ i. bit 64 0x8000_0000_0000_0001 i) (λ i. cond (is_among msr.ones i) 1 0) 64 refl;
  apart = same_below (λ i. is_among msr.ones i && is_among msr.free i) (λ i. false) 64 refl;
  below = omega arith;
}

pub lpcr_mask : IsMask lpcr.ones lpcr.free 0xffff_ffff_ffff_fbfe 0x250_0000
lpcr_mask = record {
  fixed = same_below (λ i. bit 64 0xffff_ffff_ffff_fbfe i) (λ i. cond (is_among lpcr.free i) 0 1) 64 refl;
  one = same_below (λ i. bit 64 0x250_0000 i) (λ i. cond (is_among lpcr.ones i) 1 0) 64 refl;
  apart = same_below (λ i. is_among lpcr.ones i && is_among lpcr.free i) (λ i. false) 64 refl;
  below = omega arith;
}
