use Rattle.std.proofs.Common.{◌≡◌, ◌<◌, ℕ, List, length, get_or, ap, ◌∙◌, arith}
use Rattle.kd_config.specs.declared.subnet.Subnet.{Subnet}
use Rattle.kd_pools.specs.Uses.{subnet_use}
use Rattle.kd_pools.specs.Walking.{IsOneSubnet, is_listed}
use Rattle.kd_pools.proofs.Networked.{few_uses, next_each}
use Rattle.kd_pools.proofs.Together.{next_made, whole_list}
use Rattle.kd_pools.proofs.uses.subnets_used.Goals as goal

pub loop-subnet-preserved : goal.loop-subnet-preserved
loop-subnet-preserved c =
    let subnet = c.subnet-item.result in
    let n = c.loop-subnet.subnet-index in
    let subnets = c.args.config.now.subnets in
    let less : n < length subnets = omega (arith, c.loop-subnet-test.true, ap (length {A = Subnet}) c.subnets-subnets.ensures.same) in
    let at : subnet ≡ get_or subnets n subnet = c.subnet-item.is ∙ ap (λ (xs : List Subnet). get_or xs n subnet) c.subnets-subnets.ensures.same in
    record {
      items =
          next_made (subnet_use (is_listed c.in_ok-reserved.reserved.items) c.args.rows.now.rows c.args.now) subnets n subnet c.loop-subnet.list.items c.push.new.self.items c.in_ok-use_of.field-0 less at
          c.loop-subnet.invariant.items (c.in_ok-use_of.ensures.same ∙ ap (λ (list : List ℕ). subnet_use (is_listed list) c.args.rows.now.rows c.args.now subnet) c.as_slice.ensures.value)
          c.in_ok-push.ensures.items;
      each = next_each IsOneSubnet c.loop-subnet.list.items c.push.new.self.items c.in_ok-use_of.field-0 c.loop-subnet.invariant.each c.in_ok-use_of.ensures.few c.in_ok-push.ensures.items;
    }

pub returns : goal.returns
returns c =
    let whole = whole_list c.in_ok-reserved.reserved.items c.args.config.now c.args.rows.now.rows c.args.now c.loop-subnet.list.items c.loop-subnet.subnet-index
    c.in_ok-reserved.ensures.same c.loop-subnet.invariant.items (omega (arith, c.loop-subnet-test.false, ap (length {A = Subnet}) c.subnets-subnets.ensures.same)) in
    record {
      uses = whole;
      few = record {
        few = few_uses c.args.config.now c.args.rows.now.rows c.args.now c.loop-subnet.list.items whole c.subnets-subnets.ensures.sound;
        each = c.loop-subnet.invariant.each;
      };
    }
