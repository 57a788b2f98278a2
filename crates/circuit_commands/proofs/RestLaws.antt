-- What `ext2sim` does rests on the files alone that it fetches.
use Rattle.circuit_commands.proofs.Common.{ℕ, List, inl, inr, ap, subst, Ext2simMeans}
use Rattle.outside_io.specs.Files.{Files}
use Rattle.session_model.specs.Fetches.{AgreeOn}
use Rattle.ext_loading.proofs.FileLaws.{read_rests, refused_rests}
use Rattle.line_answers.specs.LineEffects.{FreeEffect}

pub ext2sim_rests : (number : ℕ) (files others : Files) (cell : List ℕ) (effect : FreeEffect) → Ext2simMeans number files cell effect
    → AgreeOn effect.fetched files others → Ext2simMeans number others cell effect
ext2sim_rests number files others cell effect (inl tree) agree =
    let here = subst (λ (names : List (List ℕ)). AgreeOn names files others) (ap (λ (e : FreeEffect). e.fetched) tree.is) agree in
    inl (record {
      fault = tree.fault;
      fetched = tree.fetched;
      is_refused = refused_rests files others cell tree.fetched tree.fault tree.is_refused here;
      is = tree.is;
    })
ext2sim_rests number files others cell effect (inr (inl records)) agree =
    let here = subst (λ (names : List (List ℕ)). AgreeOn names files others) (ap (λ (e : FreeEffect). e.fetched) records.is) agree in
    inr (inl (record {
      exts = records.exts;
      are_read = read_rests files others cell records.exts records.are_read here;
      fault = records.fault;
      is_fault = records.is_fault;
      is = records.is;
    }))
ext2sim_rests number files others cell effect (inr (inr writes)) agree =
    let here = subst (λ (names : List (List ℕ)). AgreeOn names files others) (ap (λ (e : FreeEffect). e.fetched) writes.is) agree in
    inr (inr (record {
      exts = writes.exts;
      are_read = read_rests files others cell writes.exts writes.are_read here;
      circuit = writes.circuit;
      is_flat = writes.is_flat;
      written = writes.written;
      is_written = writes.is_written;
      is = writes.is;
    }))
