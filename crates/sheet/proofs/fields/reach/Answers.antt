-- `reach` meets its contract, field by field. Assumes nothing.
use Rattle.model.specs.Sheet.{edition, reach_on, reach_of}
use Rattle.sheet.proofs.fields.reach.Goals as goal

pub returns : goal.returns
unfolding reach_on reach_of
returns c = let edition = edition c.args.sheet.now in λ t.
    record {
      segments = c.reach_field.ensures edition t;
      dispersion = c.reach_field-2.ensures edition t;
      area = c.reach_field-3.ensures edition t;
      area2 = c.reach_field-4.ensures edition t;
      alpha = c.reach_field-5.ensures edition t;
      qin = c.reach_field-6.ensures edition t;
      qout = c.reach_field-7.ensures edition t;
      cl = c.reach_field-8.ensures edition t;
      lambda = c.reach_field-9.ensures edition t;
      lambda2 = c.reach_field-10.ensures edition t;
      lamhat = c.reach_field-11.ensures edition t;
      lamhat2 = c.reach_field-12.ensures edition t;
      rho = c.reach_field-13.ensures edition t;
      kd = c.reach_field-14.ensures edition t;
      cb = c.reach_field-15.ensures edition t;
      start = c.reach_field-16.ensures edition t;
    }
