use Rattle.std.proofs.Common.{refl, rules, [], ◌∷◌}
use Rattle.byteorder.specs.Endian.{big_bytes}
use Rattle.kd_wire.specs.Header.{header_bytes, cookie}
use Rattle.kd_wire.proofs.Written.{written_none, written_more}
use Rattle.kd_wire.proofs.put.write_header.Goals as goal

pub returns : goal.returns
unfolding header_bytes
returns c =
    let h = c.args.header.now in
    let old = c.args.out.now in
    let w0 = written_more old [] 0 _ (h.op ∷ h.htype ∷ h.hlen ∷ h.hops ∷ []) _ 4 (written_none old) c.put_bytes.ensures refl in
    let w1 = written_more old _ 4 _ (big_bytes 4 h.xid) _ 4 w0 c.put_u32.ensures refl in
    let w2 = written_more old _ 8 _ (big_bytes 2 h.secs) _ 2 w1 c.put_u16.ensures refl in
    let w3 = written_more old _ 10 _ (big_bytes 2 h.flags) _ 2 w2 c.put_u16-2.ensures refl in
    let w4 = written_more old _ 12 _ (big_bytes 4 h.ciaddr) _ 4 w3 c.put_u32-2.ensures refl in
    let w5 = written_more old _ 16 _ (big_bytes 4 h.yiaddr) _ 4 w4 c.put_u32-3.ensures refl in
    let w6 = written_more old _ 20 _ (big_bytes 4 h.siaddr) _ 4 w5 c.put_u32-4.ensures refl in
    let w7 = written_more old _ 24 _ (big_bytes 4 h.giaddr) _ 4 w6 c.put_u32-5.ensures refl in
    let w8 = written_more old _ 28 _ h.chaddr _ 16 w7 c.put_bytes-2.ensures (search rules) in
    let w9 = written_more old _ 44 _ h.sname _ 64 w8 c.put_bytes-3.ensures (search rules) in
    let w10 = written_more old _ 108 _ h.file _ 128 w9 c.put_bytes-4.ensures (search rules) in
    let w11 = written_more old _ 236 _ (big_bytes 4 cookie) _ 4 w10 c.put_u32-6.ensures refl in
    record { written = w11.is; len = w11.place }
