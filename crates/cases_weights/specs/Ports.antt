-- A kind whose weights are sets of ports.
use Rattle.std.specs.Prelude.{ℕ, ◌-◌, ◌^◌, bit_and, bit_or, nat_lt}
use Rattle.weights.specs.Weights.{Ops}

-- sixteen ports, one bit each
abbrev pub sets_end : ℕ
sets_end = 2 ^ 16

abbrev pub all_ports : ℕ
all_ports = sets_end - 1

-- the ports over which a frame may leave: join is the union, times the intersection, and a cost forbids none
abbrev pub port_ops : Ops
port_ops =
    record {
      is = λ a. nat_lt a sets_end;
      zero = 0;
      one = all_ports;
      join = λ a b. bit_or a b;
      times = λ a b. bit_and a b;
      cost = λ n. all_ports;
    }
