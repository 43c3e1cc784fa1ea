-- Stores into 512 zeros are the AUX bytes: each call's is put in, the last one first.
use Rattle.frame.specs.Aux.{access_bytes, aux_bytes}
use Rattle.aux_building.proofs.fill_aux.Goals as goal

pub returns : goal.returns
unfolding access_bytes aux_bytes
returns c =
    rw (
      c.put_be32-9.ensures,
      c.put_be32-8.ensures,
      c.put_be32-7.ensures,
      c.put_be32-6.ensures,
      c.build_access_table.ensures,
      c.put_be32-5.ensures,
      c.put_be32-4.ensures,
      c.put_be32-3.ensures,
      c.put_be32-2.ensures,
      c.put_be16-2.ensures,
      c.put_be16.ensures,
      c.put_be32.ensures,
      c.clear.ensures,
      c.requires,
    )
